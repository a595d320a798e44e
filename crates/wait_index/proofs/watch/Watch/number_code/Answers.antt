use Rattle.std.proofs.Common.{◌≡◌, ◌||◌, ℕ, Bool, true, false, List, ◌∷◌, Some, refl, ap, ◌∙◌}
use Rattle.pi_base.specs.{declared.guid.Guid.Guid, GuidMap.value_of}
use Rattle.depex_code.specs.declared.opcode.Opcode.{Opcode}
use Rattle.wait_index.specs.declared.watch.Watch.{Watch}
use Rattle.wait_index.specs.Watching.{Covers, code_pushes, opcode_pushes}
use Rattle.wait_index.proofs.Walking.{first_and_left}
use Rattle.wait_index.proofs.watch.Watch.number_code.Goals as goal

-- a GUID that no opcode pushes behind the first has a slot: the first pushes it, or it had one
has_slot : (old new : Watch) (guid : Guid) (code after : List Opcode) (opcode : Opcode) (here : Bool)
    → opcode_pushes guid opcode ≡ here → code ≡ opcode ∷ after → Covers (λ g. opcode_pushes g opcode) old new
    → (code_pushes guid code ≡ false → (slot : ℕ) × (value_of old.slots guid ≡ Some slot)) → code_pushes guid after ≡ false
    → (slot : ℕ) × (value_of new.slots guid ≡ Some slot)
has_slot old new guid code after opcode true pushes is covers before none = covers.covered guid pushes
has_slot old new guid code after opcode false pushes is covers before none =
    let had = before (ap (code_pushes guid) is ∙ ap (λ b. b || code_pushes guid after) pushes ∙ none) in
    (had.0, covers.kept guid had.0 had.1)

pub opcodes-preserved : goal.opcodes-preserved
opcodes-preserved c =
    let done = c.in_ok-number_opcode.ensures in
    let before = c.opcodes.invariant in
    record {
      numbering = done.numbering;
      kept = λ guid slot here. done.covers.kept guid slot (before.kept guid slot here);
      covered = λ guid pushed none. has_slot c.opcodes.self c.number_opcode.new.self guid c.opcodes.rest.now _ _ _ refl
          (first_and_left c.opcodes.rest.now _ c.in-len1-up.len_at_least) done.covers (before.covered guid pushed) none;
    }
