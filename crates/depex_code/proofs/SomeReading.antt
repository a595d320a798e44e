-- Bytes have a reading in each phase: a tree's opcodes are read one after another without want of memory.
use Rattle.std.proofs.Common.{◌≡◌, ◌≢◌, ◌⊎◌, inl, inr, ℕ, zero, suc, ◌+◌, ◌-◌, ◌==◌, Bool, true, false, List, [], ◌∷◌, ◌++◌, length, Option, Some, None, Ok, Err, refl, sym, ap, ◌∙◌, arith, true≢false}
use Rattle.std.proofs.{lemmas.Bool.Decides.nat_tests, lemmas.List.length_push}
use Rattle.pi_base.specs.{declared.phase.Phase.Phase, declared.phase.Phase.TheVariants.Pei, declared.phase.Phase.TheVariants.Dxe}
use Rattle.depex_code.specs.{declared.opcode.Opcode.Opcode, declared.instruction.Instruction.Instruction, declared.depex.Depex.Depex}
use Rattle.depex_code.specs.declared.instruction.Instruction.TheVariants as instruction
use Rattle.depex_code.specs.declared.depex.Depex.TheVariants as depex
use Rattle.depex_code.specs.{declared.fault.DepexFault.TheVariants.Malformed, Tree.DepexTree, Depth.depth_after}
use Rattle.depex_code.specs.Expression.{bytes_of, sor_front, Reads, IsMalformed}
use Rattle.depex_code.specs.Reading.{instruction_at, BlocksAt, IsStuck, IsTreeRead, from_of}
use Rattle.depex_code.proofs.{Instructions.instruction_takes, Machine.MayBe}
use Rattle.depex_code.proofs.TreeWalk.{HasRead, none_read, more_read, tree_read, is_read, is_stuck}
use Rattle.depex_code.proofs.Outcomes.{IsNamed, StartsTree, named_is, tree_is, nothing_is, first_is}

-- a tree is read, or nothing goes on at an offset
abbrev TreeOutcome : List ℕ → ℕ → ℕ → Type 0
TreeOutcome bytes from room = ((node : DepexTree) × IsTreeRead bytes room node) ⊎ ((at : ℕ) × IsStuck bytes from room at)

-- so it is where room is left for so many opcodes
abbrev Follows : List ℕ → ℕ → ℕ → ℕ → Type 0
Follows bytes from room left = (code : List Opcode) (depth : ℕ) (rest : List ℕ) → HasRead bytes code depth rest → length code + left ≡ room → TreeOutcome bytes from room

blocked : (bytes : List ℕ) (from room left : ℕ) (code : List Opcode) (depth : ℕ) (rest : List ℕ) → HasRead bytes code depth rest → length code + suc left ≡ room → BlocksAt depth (instruction_at rest) → TreeOutcome bytes from room
blocked bytes from room left code depth rest read left_is stops = inr (from + (length bytes - length rest), is_stuck bytes code depth rest from room read (omega (arith, left_is)) (inl stops))

by_depth : (bytes : List ℕ) (from room left : ℕ) (code : List Opcode) (depth : ℕ) (rest : List ℕ) (next : Opcode) (after : List ℕ) (deeper : Option ℕ) → Follows bytes from room left
    → instruction_at rest ≡ Some (instruction.Of next, after) → depth_after next depth ≡ deeper → HasRead bytes code depth rest → length code + suc left ≡ room → TreeOutcome bytes from room
by_depth bytes from room left code depth rest next after None go is deep read left_is = blocked bytes from room left code depth rest read left_is (rw is deep)
by_depth bytes from room left code depth rest next after (Some deeper) go is deep read left_is =
    go (code ++ next ∷ []) deeper after (more_read bytes code depth rest next deeper after (code ++ next ∷ []) read is deep refl) (omega (arith, left_is, length_push code next))

by_end : (bytes : List ℕ) (from room left : ℕ) (code : List Opcode) (depth : ℕ) (rest after : List ℕ) (one : Bool) → instruction_at rest ≡ Some (instruction.End, after) → (depth == 1) ≡ one → HasRead bytes code depth rest → length code + suc left ≡ room → TreeOutcome bytes from room
by_end bytes from room left code depth rest after true is one read left_is =
    let deep : depth ≡ 1 = grind (arith, nat_tests, one) in
    let tree = tree_read bytes code rest (rw deep at read) in
    inl (tree.0, is_read bytes code rest after room tree.0 (rw deep at read) is (omega (arith, left_is)) tree.1)
by_end bytes from room left code depth rest after false is one read left_is =
    let other : depth ≢ 1 = grind (arith, nat_tests, one) in
    blocked bytes from room left code depth rest read left_is (rw is other)

by_next : (bytes : List ℕ) (from room left : ℕ) (code : List Opcode) (depth : ℕ) (rest : List ℕ) (next : Option (Instruction × List ℕ)) → Follows bytes from room left → instruction_at rest ≡ next → HasRead bytes code depth rest → length code + suc left ≡ room → TreeOutcome bytes from room
by_next bytes from room left code depth rest None go is read left_is = blocked bytes from room left code depth rest read left_is (rw is tt)
by_next bytes from room left code depth rest (Some (instruction.Of next, after)) go is read left_is = by_depth bytes from room left code depth rest next after (depth_after next depth) go is refl read left_is
by_next bytes from room left code depth rest (Some (instruction.End, after)) go is read left_is = by_end bytes from room left code depth rest after (depth == 1) is refl read left_is
by_next bytes from room left code depth rest (Some (instruction.Before guid, after)) go is read left_is = blocked bytes from room left code depth rest read left_is (rw is tt)
by_next bytes from room left code depth rest (Some (instruction.After guid, after)) go is read left_is = blocked bytes from room left code depth rest read left_is (rw is tt)
by_next bytes from room left code depth rest (Some (instruction.Sor, after)) go is read left_is = blocked bytes from room left code depth rest read left_is (rw is tt)

follows : (bytes : List ℕ) (from room left : ℕ) → Follows bytes from room left
follows bytes from room zero code depth rest read left_is = inr (from + (length bytes - length rest), is_stuck bytes code depth rest from room read (omega (arith, left_is)) (inr (omega (arith, left_is))))
follows bytes from room (suc left) code depth rest read left_is = by_next bytes from room left code depth rest (instruction_at rest) (follows bytes from room left) refl read left_is

-- an expression is read, or the bytes are malformed at an offset
abbrev Outcome : Phase → List ℕ → Type 0
Outcome phase bytes = ((e : Depex) × Reads phase bytes e) ⊎ ((at : ℕ) × IsMalformed phase bytes at)

tree_outcome : (phase : Phase) (sor : Bool) (bytes tail : List ℕ) → MayBe phase sor → bytes ≡ bytes_of (sor_front sor) ++ tail → StartsTree phase sor tail → Outcome phase bytes
tree_outcome phase sor bytes tail may here starts =
    elim (follows tail (from_of sor) (1024 - from_of sor) (1024 - from_of sor) [] 0 tail (none_read tail) (omega arith)) [
      | inl read ↦ inl (depex.Expr sor read.0, (tree_is phase sor bytes tail (Ok (depex.Expr sor read.0)) may here starts (read.0, refl, read.1)).0)
      | inr stuck ↦ inr (stuck.0, (tree_is phase sor bytes tail (Err (Malformed stuck.0)) may here starts stuck.1).1)
    ]

-- END stands next
abbrev is_end : Option (Instruction × List ℕ) → Bool
is_end None = false
is_end (Some (instruction.Of code, rest)) = false
is_end (Some (instruction.End, rest)) = true
is_end (Some (instruction.Before guid, rest)) = false
is_end (Some (instruction.After guid, rest)) = false
is_end (Some (instruction.Sor, rest)) = false

no_end : (e : Depex) (x : Instruction) (bytes rest : List ℕ) → IsNamed e x → instruction_at bytes ≡ Some (x, rest) → is_end (instruction_at rest) ≡ false → Outcome Dxe bytes
no_end e x bytes rest named first none =
    let other : (after : List ℕ) → instruction_at rest ≢ Some (instruction.End, after) = λ after is. true≢false (sym (ap is_end is) ∙ none) in
    inr (length bytes - length rest, (named_is e x bytes rest (Err (Malformed (length bytes - length rest))) named first (refl, other)).1)

named_outcome : (e : Depex) (x : Instruction) (bytes rest : List ℕ) (next : Option (Instruction × List ℕ)) → IsNamed e x → instruction_at bytes ≡ Some (x, rest) → instruction_at rest ≡ next → Outcome Dxe bytes
named_outcome e x bytes rest None named first is = no_end e x bytes rest named first (ap is_end is)
named_outcome e x bytes rest (Some (instruction.Of code, after)) named first is = no_end e x bytes rest named first (ap is_end is)
named_outcome e x bytes rest (Some (instruction.End, after)) named first is = inl (e, (named_is e x bytes rest (Ok e) named first (refl, (after, is))).0)
named_outcome e x bytes rest (Some (instruction.Before guid, after)) named first is = no_end e x bytes rest named first (ap is_end is)
named_outcome e x bytes rest (Some (instruction.After guid, after)) named first is = no_end e x bytes rest named first (ap is_end is)
named_outcome e x bytes rest (Some (instruction.Sor, after)) named first is = no_end e x bytes rest named first (ap is_end is)

driver_outcome : (bytes : List ℕ) (first : Option (Instruction × List ℕ)) → instruction_at bytes ≡ first → Outcome Dxe bytes
driver_outcome bytes None is = inr (0, nothing_is bytes is)
driver_outcome bytes (Some (instruction.Before guid, rest)) is = named_outcome (depex.Before guid) (instruction.Before guid) bytes rest (instruction_at rest) (record { spelled = refl; taken = refl }) is refl
driver_outcome bytes (Some (instruction.After guid, rest)) is = named_outcome (depex.After guid) (instruction.After guid) bytes rest (instruction_at rest) (record { spelled = refl; taken = refl }) is refl
driver_outcome bytes (Some (instruction.Sor, rest)) is = tree_outcome Dxe true bytes rest tt (instruction_takes bytes instruction.Sor rest is).0 tt
driver_outcome bytes (Some (instruction.Of code, rest)) is = tree_outcome Dxe false bytes bytes tt refl (first_is bytes (instruction.Of code) rest is tt)
driver_outcome bytes (Some (instruction.End, rest)) is = tree_outcome Dxe false bytes bytes tt refl (first_is bytes instruction.End rest is tt)

pub some_reading : (phase : Phase) (bytes : List ℕ) → Outcome phase bytes
some_reading Pei bytes = tree_outcome Pei false bytes bytes refl refl (λ x more e. tt)
some_reading Dxe bytes = driver_outcome bytes (instruction_at bytes) refl
