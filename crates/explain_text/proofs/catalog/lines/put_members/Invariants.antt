use Rattle.std.proofs.Common.{◌≡◌, ◌++◌, ℕ, List, Option, take}
use Rattle.pi_base.specs.Lists.{EachPair}
use Rattle.explain_text.specs.{Title.IsTitle, Lines.catalog_lines}
use Rattle.explain_text.proofs.catalog.lines.put_members.Given as goal

abbrev pub invariant-modules : goal.invariant-modules
invariant-modules l =
    (l.number ≡ l.member-index)
    × ((titles : List (Option (List ℕ))) × EachPair (IsTitle l.volumes l.images) (take l.member-index l.modules) titles
    × (l.out ≡ l.fn.out ++ catalog_lines 0 (take l.member-index l.modules) titles))
