use Rattle.std.proofs.Common.{◌≡◌, ◌+◌, take}
use Rattle.mod_catalog.specs.{ReadFile.nested_in, Lying.AreStretchesBelow}
use Rattle.mod_catalog.proofs.stretches.stretches_of.Given as goal

-- the stretches so far
abbrev pub invariant-sections : goal.invariant-sections
invariant-sections l = record {
  found : l.stretches ≡ nested_in l.file (take l.section-index l.sections);
  below : AreStretchesBelow (l.file.body_at + l.file.body_len) l.stretches;
}
