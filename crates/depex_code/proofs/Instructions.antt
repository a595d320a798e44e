-- An opcode that is read stands at the front, and one that stands at the front is read.
use Rattle.std.proofs.Common.{◌≡◌, ℕ, ◌*◌, ◌≤◌, Bool, true, false, List, [], ◌∷◌, ◌++◌, length, take, drop, Option, Some, None, refl, sym, ap, subst, ◌∙◌, arith, ltb, inl, inr, if◌then◌else◌, ◌==◌, option_map, eqb-true, take-append-drop, take_at, drop_at, length-append, length-take}
use Rattle.std.specs.{Prelude.⊤, List.AllByRecursion}
use Rattle.std.proofs.{lemmas.Bool.cases_lt, lemmas.Bool.Decides.nat_tests}
use Rattle.pi_base.specs.declared.guid.Guid.{Guid}
use Rattle.depex_code.specs.declared.opcode.Opcode.TheVariants as opcode
use Rattle.depex_code.specs.{declared.instruction.Instruction.Instruction, Instruction.instruction_bytes, Instruction.IsWhole}
use Rattle.depex_code.specs.declared.instruction.Instruction.TheVariants as instruction
use Rattle.depex_code.specs.Expression.{bytes_of}
use Rattle.depex_code.specs.Reading.{guid_front, with_guid, instruction_at}

-- what was read is what stands there
abbrev IsTaken : List ℕ → Option (Instruction × List ℕ) → Type 0
IsTaken bytes None = ⊤
IsTaken bytes (Some x) = (bytes ≡ instruction_bytes x.0 ++ x.1) × IsWhole x.0

either : (bytes : List ℕ) (b : Bool) (x y : Option (Instruction × List ℕ)) → (b ≡ true → IsTaken bytes x) → IsTaken bytes y → IsTaken bytes (if b then x else y)
either bytes b x y taken other = elim b as (λ c. (c ≡ true → IsTaken bytes x) → IsTaken bytes (if c then x else y)) [ true ↦ λ h. h refl | false ↦ λ h. other ] taken

-- an opcode with a GUID whose byte is code
record HasGuid (code : ℕ) (made : Guid → Instruction) : Type 0 where
  pub spelled : (guid : Guid) → instruction_bytes (made guid) ≡ code ∷ guid.0
  pub whole : (guid : Guid) → length guid.0 ≡ 16 → IsWhole (made guid)

with_guid-taken : (byte code : ℕ) (made : Guid → Instruction) (rest : List ℕ) → byte ≡ code → HasGuid code made → IsTaken (byte ∷ rest) (with_guid made rest)
with_guid-taken byte code made rest is has =
    elim (cases_lt (length rest) 16) [
      | inl short ↦ let e : ltb (length rest) 16 ≡ true = grind (arith, nat_tests) in rw e tt
      | inr long ↦
          let e : ltb (length rest) 16 ≡ false = grind (arith, nat_tests) in
          rw e (let guid : Guid = record { 0 = take 16 rest } in (
            ap (λ b. b ∷ rest) is ∙ ap (λ r. code ∷ r) (sym (take-append-drop 16 rest)) ∙ ap (λ t. t ++ drop 16 rest) (sym (has.spelled guid)),
            has.whole guid (omega (arith, length-take 16 rest)),
          ))
    ]

plain : (byte code : ℕ) (x : Instruction) (rest : List ℕ) → byte ≡ code → instruction_bytes x ≡ code ∷ [] → IsWhole x → IsTaken (byte ∷ rest) (Some (x, rest))
plain byte code x rest is spelled whole = (ap (λ b. b ∷ rest) is ∙ ap (λ t. t ++ rest) (sym spelled), whole)

instruction_at-taken : (bytes : List ℕ) → IsTaken bytes (instruction_at bytes)
unfolding instruction_at
instruction_at-taken [] = tt
instruction_at-taken (b ∷ rest) =
    either (b ∷ rest) (b == 0) _ _ (λ e. with_guid-taken b 0 instruction.Before rest (eqb-true b 0 e) (record { spelled = λ g. refl; whole = λ g h. h }))
    (either (b ∷ rest) (b == 1) _ _ (λ e. with_guid-taken b 1 instruction.After rest (eqb-true b 1 e) (record { spelled = λ g. refl; whole = λ g h. h }))
    (either (b ∷ rest) (b == 2) _ _ (λ e. with_guid-taken b 2 (λ g. instruction.Of (opcode.Push g)) rest (eqb-true b 2 e) (record { spelled = λ g. refl; whole = λ g h. h }))
    (either (b ∷ rest) (b == 3) _ _ (λ e. plain b 3 (instruction.Of opcode.And) rest (eqb-true b 3 e) refl tt)
    (either (b ∷ rest) (b == 4) _ _ (λ e. plain b 4 (instruction.Of opcode.Or) rest (eqb-true b 4 e) refl tt)
    (either (b ∷ rest) (b == 5) _ _ (λ e. plain b 5 (instruction.Of opcode.Not) rest (eqb-true b 5 e) refl tt)
    (either (b ∷ rest) (b == 6) _ _ (λ e. plain b 6 (instruction.Of opcode.True) rest (eqb-true b 6 e) refl tt)
    (either (b ∷ rest) (b == 7) _ _ (λ e. plain b 7 (instruction.Of opcode.False) rest (eqb-true b 7 e) refl tt)
    (either (b ∷ rest) (b == 8) _ _ (λ e. plain b 8 instruction.End rest (eqb-true b 8 e) refl tt)
    (either (b ∷ rest) (b == 9) _ _ (λ e. plain b 9 instruction.Sor rest (eqb-true b 9 e) refl tt) tt)))))))))

-- what was read stands at the front
pub instruction_takes : (bytes : List ℕ) (x : Instruction) (rest : List ℕ) → instruction_at bytes ≡ Some (x, rest) → (bytes ≡ instruction_bytes x ++ rest) × IsWhole x
instruction_takes bytes x rest e = subst (IsTaken bytes) e (instruction_at-taken bytes)

guid_again : (guid : Guid) (rest : List ℕ) → length guid.0 ≡ 16 → guid_front (guid.0 ++ rest) ≡ Some (guid, rest)
guid_again guid rest whole =
    let long : ltb (length (guid.0 ++ rest)) 16 ≡ false = let l = length-append guid.0 rest in grind (arith, nat_tests) in
    rw (long, take_at guid.0 rest 16 whole, drop_at guid.0 rest 16 whole) refl

-- what stands at the front is read
pub instruction_again : (x : Instruction) (rest : List ℕ) → IsWhole x → instruction_at (instruction_bytes x ++ rest) ≡ Some (x, rest)
unfolding instruction_at
instruction_again (instruction.Before guid) rest whole = ap (option_map (λ x. (instruction.Before x.0, x.1))) (guid_again guid rest whole)
instruction_again (instruction.After guid) rest whole = ap (option_map (λ x. (instruction.After x.0, x.1))) (guid_again guid rest whole)
instruction_again (instruction.Of (opcode.Push guid)) rest whole = ap (option_map (λ x. (instruction.Of (opcode.Push x.0), x.1))) (guid_again guid rest whole)
instruction_again (instruction.Of opcode.And) rest whole = refl
instruction_again (instruction.Of opcode.Or) rest whole = refl
instruction_again (instruction.Of opcode.Not) rest whole = refl
instruction_again (instruction.Of opcode.True) rest whole = refl
instruction_again (instruction.Of opcode.False) rest whole = refl
instruction_again instruction.End rest whole = refl
instruction_again instruction.Sor rest whole = refl

-- an opcode has at most seventeen bytes
pub length-instruction_bytes : (x : Instruction) → IsWhole x → length (instruction_bytes x) ≤ 17
length-instruction_bytes (instruction.Before guid) whole = omega arith
length-instruction_bytes (instruction.After guid) whole = omega arith
length-instruction_bytes (instruction.Of (opcode.Push guid)) whole = omega arith
length-instruction_bytes (instruction.Of opcode.And) whole = omega arith
length-instruction_bytes (instruction.Of opcode.Or) whole = omega arith
length-instruction_bytes (instruction.Of opcode.Not) whole = omega arith
length-instruction_bytes (instruction.Of opcode.True) whole = omega arith
length-instruction_bytes (instruction.Of opcode.False) whole = omega arith
length-instruction_bytes instruction.End whole = omega arith
length-instruction_bytes instruction.Sor whole = omega arith

pub length-bytes_of : (xs : List Instruction) → AllByRecursion IsWhole xs → length (bytes_of xs) ≤ 17 * length xs
length-bytes_of [] whole = omega arith
length-bytes_of (x ∷ xs) whole = omega (arith, length-instruction_bytes x whole.0, length-bytes_of xs whole.1, length-append (instruction_bytes x) (bytes_of xs))
