use Rattle.std.proofs.Common.{◌≡◌, ◌≤◌, ◌-◌, ◌||◌, ℕ, Bool, true, false, List, ◌∷◌, Some, length, get_or, take, drop, refl, sym, ap, ◌∙◌}
use Rattle.pi_base.specs.{declared.guid.Guid.Guid, declared.phase.Phase.Phase, GuidMap.value_of}
use Rattle.depex_code.specs.declared.opcode.Opcode.{Opcode}
use Rattle.mod_catalog.specs.declared.catalogue.Module.{Module}
use Rattle.wait_index.specs.declared.watch.Watch.{Watch}
use Rattle.wait_index.specs.Watching.{Covers, code_pushes, module_code, modules_push}
use Rattle.wait_index.proofs.Walking.{first_and_left}
use Rattle.wait_index.proofs.watch.Watch.number_modules.Goals as goal

-- a GUID that no module pushes behind the first has a slot: the first pushes it, or it had one
has_slot : (phase : Phase) (old new : Watch) (guid : Guid) (modules : List Module) (first : Module) (code : List Opcode) (here : Bool)
    → code_pushes guid code ≡ here → 1 ≤ length modules
    → first ≡ get_or modules 0 first → code ≡ module_code phase first → Covers (λ g. code_pushes g code) old new
    → (modules_push phase guid modules ≡ false → (slot : ℕ) × (value_of old.slots guid ≡ Some slot))
    → modules_push phase guid (take (length modules - 1) (drop 1 modules)) ≡ false → (slot : ℕ) × (value_of new.slots guid ≡ Some slot)
has_slot phase old new guid modules first code true pushes some front coded covers before none = covers.covered guid pushes
has_slot phase old new guid modules first code false pushes some front coded covers before none =
    let after = take (length modules - 1) (drop 1 modules) in
    let here : code_pushes guid (module_code phase first) ≡ false = ap (code_pushes guid) (sym coded) ∙ pushes in
    let is : modules ≡ first ∷ after = first_and_left modules first some ∙ ap (λ m. m ∷ after) (sym front) in
    let had = before (ap (modules_push phase guid) is ∙ ap (λ b. b || modules_push phase guid after) here ∙ none) in
    (had.0, covers.kept guid had.0 had.1)

pub modules-preserved : goal.modules-preserved
modules-preserved c =
    let done = c.in_ok-number_code.ensures in
    let before = c.modules.invariant in
    record {
      numbering = done.numbering;
      kept = λ guid slot here. done.covers.kept guid slot (before.kept guid slot here);
      covered = λ guid pushed none. has_slot c.args.phase c.modules.self c.number_code.new.self guid c.modules.rest.now
          c.member-item.result c.module_code.result.now _ refl c.in-len1-up.len_at_least c.member-item.is
          c.module_code.ensures done.covers (before.covered guid pushed) none;
    }
