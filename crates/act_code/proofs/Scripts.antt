-- The header, and the whole script.
use Rattle.std.proofs.Common.{suc, ◌≡◌, ◌≢◌, ℕ, ◌-◌, ◌+◌, ◌≤◌, Bool, true, false, List, [], ◌∷◌, ◌++◌, length, drop, Option, Some, None, Result, Ok, Err, refl, sym, ap, subst, ◌∙◌, arith, inl, inr, eqb-true, if◌then◌else◌, ◌==◌, ◌&&◌, ◌||◌, nat_lt, flat_map, append-nil, length-append}
use Rattle.std.proofs.{lemmas.Option.same_Some, lemmas.Bool.false≢true, lemmas.Bool.Decides.nat_tests}
use Rattle.pi_base.specs.{Field.AreBytes, declared.phase.Phase.Phase}
use Rattle.pi_base.specs.declared.phase.Phase.TheVariants.{Pei, Dxe}
use Rattle.act_code.specs.{declared.action.Action.Action, declared.header.Header.Header, declared.script.Script.Script}
use Rattle.act_code.specs.{declared.fault.ActFault.ActFault, Format.is_within}
use Rattle.act_code.specs.declared.fault.ActCause.TheVariants as cause
use Rattle.act_code.specs.Header.{header_at, header_bytes, phase_of, phase_byte, counted_by, is_magic}
use Rattle.act_code.specs.ScriptReading.{◌>>=◌, fault_at, many, block_at, body_at, script_at}
use Rattle.act_code.specs.Script.{block_bytes, script_bytes, Each, IsBlock, IsScript, IsFault}
use Rattle.act_code.proofs.Formats.{chosen, AreBytes-rest, AreBytes-drop}
use Rattle.act_code.proofs.Blocks.{block_laws, block_fails, block_fails_again}
use Rattle.act_code.proofs.Lists.{bind_ok, ok_is, err_is, many_takes, many_again, many_fails, many_fails_again}

-- what a header that was read says
pub record IsHeaderOf (bytes : List ℕ) (header : Header) : Type 0 where
  pub spelled : bytes ≡ header_bytes header.phase header.blocks ++ drop 8 bytes
  pub size : header.size ≡ length bytes
  pub number : is_within 1 64 header.blocks ≡ true
  pub short : header.size ≤ 65536

abbrev IsTold : List ℕ → Result Header ActFault → Type 0
IsTold bytes (Ok header) = IsHeaderOf bytes header
IsTold bytes (Err fault) = Unit {0}

told_if : (bytes : List ℕ) (b : Bool) (x y : Result Header ActFault) → (b ≡ true → IsTold bytes x) → (b ≡ false → IsTold bytes y) → IsTold bytes (if b then x else y)
told_if bytes b x y here other = elim b as (λ c. (c ≡ true → IsTold bytes x) → (c ≡ false → IsTold bytes y) → IsTold bytes (if c then x else y)) [ true ↦ λ h k. h refl | false ↦ λ h k. k refl ] here other

phase_told : (n : ℕ) (phase : Phase) → phase_of n ≡ Some phase → n ≡ phase_byte phase
phase_told n phase e =
    elim (chosen (n == 1) (Some Pei) (if n == 2 then Some Dxe else None) (Some phase) e) [
      | inl (is, same) ↦ eqb-true n 1 is ∙ ap phase_byte (same_Some Pei phase same)
      | inr (other, e2) ↦ elim (chosen (n == 2) (Some Dxe) None (Some phase) e2) [
        | inl (is, same) ↦ eqb-true n 2 is ∙ ap phase_byte (same_Some Dxe phase same)
        | inr (neither, none) ↦ absurd cc
      ]
    ]

both_true : (a b : Bool) → (a && b) ≡ true → (a ≡ true) × (b ≡ true)
both_true true b e = (refl, e)
both_true false b e = absurd (false≢true e)

header_told : (bytes : List ℕ) → IsTold bytes (header_at bytes)
header_told (a ∷ b ∷ c ∷ d ∷ version ∷ phase ∷ blocks ∷ last ∷ rest) =
    told_if bytes (is_magic a b c d) _ _ (λ magic. told_if bytes (version == 1) _ _ (λ one. counted magic one (phase_of phase) refl) (λ _. tt)) (λ _. tt)
  where
    bytes : List ℕ
    bytes = a ∷ b ∷ c ∷ d ∷ version ∷ phase ∷ blocks ∷ last ∷ rest

    counted : is_magic a b c d ≡ true → (version == 1) ≡ true → (o : Option Phase) → phase_of phase ≡ o → IsTold (a ∷ b ∷ c ∷ d ∷ version ∷ phase ∷ blocks ∷ last ∷ rest) (counted_by (8 + length rest) blocks last o)
    counted magic one None is = tt
    counted magic one (Some p) is =
        told_if (a ∷ b ∷ c ∷ d ∷ version ∷ phase ∷ blocks ∷ last ∷ rest) (nat_lt blocks 1 || nat_lt 64 blocks || nat_lt 65536 (8 + length rest)) _ _ (λ _. tt) (λ fits. told_if (a ∷ b ∷ c ∷ d ∷ version ∷ phase ∷ blocks ∷ last ∷ rest) (last == 0) _ _ (λ end.
        let abc = both_true ((a == 0x50) && (b == 0x49) && (c == 0x41)) (d == 0x53) magic in
        let ab = both_true ((a == 0x50) && (b == 0x49)) (c == 0x41) abc.0 in
        let first = both_true (a == 0x50) (b == 0x49) ab.0 in
        let ea : a ≡ 0x50 = eqb-true a 0x50 first.0 in
        let eb : b ≡ 0x49 = eqb-true b 0x49 first.1 in
        let ec : c ≡ 0x41 = eqb-true c 0x41 ab.1 in
        let ed : d ≡ 0x53 = eqb-true d 0x53 abc.1 in
        let ev : version ≡ 1 = eqb-true version 1 one in
        let ep : phase ≡ phase_byte p = phase_told phase p is in
        let el : last ≡ 0 = eqb-true last 0 end in
        record { spelled = cc; size = omega arith; number = grind (arith, nat_tests); short = grind (arith, nat_tests) }) (λ _. tt))
header_told _ = tt

pub header_takes : (bytes : List ℕ) (header : Header) → header_at bytes ≡ Ok header → IsHeaderOf bytes header
header_takes bytes header e = subst (IsTold bytes) e (header_told bytes)

phase_again : (phase : Phase) → phase_of (phase_byte phase) ≡ Some phase
phase_again Pei = refl
phase_again Dxe = refl

pub header_again : (phase : Phase) (n : ℕ) (rest : List ℕ) → is_within 1 64 n ≡ true → 8 + length rest ≤ 65536
    → header_at (header_bytes phase n ++ rest) ≡ Ok (record { size = 8 + length rest; phase = phase; blocks = n })
header_again phase n rest is short =
    let fits : nat_lt n 1 || nat_lt 64 n || nat_lt 65536 (8 + length rest) ≡ false = grind (arith, nat_tests) in
    rw (phase_again phase, fits) refl

-- ---- the whole

abbrev ending : Header → List (List Action) × List ℕ → Result Script ActFault
ending header b = if length b.1 == 0 then Ok (record { phase = header.phase; blocks = b.0 }) else Err (fault_at header.size cause.Count b.1)

some_left : (n : ℕ) → (suc n == 0) ≡ false
some_left n = grind (arith, nat_tests)

told_end : (rest : List ℕ) (x y : Script) (f : ActFault) → (if length rest == 0 then Ok x else Err f) ≡ Ok y → (rest ≡ []) × (x ≡ y)
told_end [] x y f e = (refl, ok_is x y e)
told_end (b ∷ rest) x y f e = let none : ◌≡◌ {A = Result Script ActFault} (Err f) (Ok y) = rw (some_left (length rest)) at e in absurd cc

not_end : (rest : List ℕ) (x : Script) (f g : ActFault) → (if length rest == 0 then Ok x else Err f) ≡ Err g → (rest ≢ []) × (f ≡ g)
not_end [] x f g e = absurd cc
not_end (b ∷ rest) x f g e = ((λ none. absurd cc), err_is {A = Script} f g (rw (some_left (length rest)) at e))

still_left : (rest : List ℕ) (x : Script) (f : ActFault) → rest ≢ [] → (if length rest == 0 then Ok x else Err f) ≡ Err f
still_left [] x f some = absurd (some refl)
still_left (b ∷ rest) x f some = rw (some_left (length rest)) refl

-- a script that is read stands there
pub script_takes : (bytes : List ℕ) (s : Script) → AreBytes bytes → script_at bytes ≡ Ok s → IsScript bytes s
unfolding script_at body_at
script_takes bytes s all e =
    let h = bind_ok (header_at bytes) (λ h. body_at h (drop 8 bytes)) s e in
    let header = h.0 in
    let said = header_takes bytes header h.1 in
    let b = bind_ok (many (λ _. block_at header) header.blocks (drop 8 bytes)) (ending header) s h.2 in
    let made : Script = record { phase = header.phase; blocks = b.0.0 } in
    let p = told_end b.0.1 made s (fault_at header.size cause.Count b.0.1) b.2 in
    let t = many_takes (λ _. block_at header) block_bytes (λ _. IsBlock header.phase header.blocks) (block_laws header) header.blocks (drop 8 bytes) b.0 (AreBytes-drop 8 bytes all) b.1 in
    let count : header.blocks ≡ length b.0.0 = sym t.1 in
    let body : drop 8 bytes ≡ flat_map block_bytes b.0.0 = t.0.parts ∙ ap (λ r. flat_map block_bytes b.0.0 ++ r) p.0 ∙ append-nil (flat_map block_bytes b.0.0) in
    let whole : bytes ≡ script_bytes made = said.spelled ∙ ap (λ r. header_bytes header.phase header.blocks ++ r) body ∙ ap (λ n. header_bytes header.phase n ++ flat_map block_bytes b.0.0) count in
    subst (λ (x : Script). IsScript bytes x) p.1 (record {
      spelled = whole;
      grammar = record { number = rw count at said.number; blocks = subst (λ k. Each (λ _. IsBlock header.phase k) k b.0.0) count t.2 };
      short = omega (arith, said.size, said.short);
    })

blocks_again : (header : Header) (blocks : List (List Action)) (rest : List ℕ) → Each (λ _. IsBlock header.phase header.blocks) header.blocks blocks → length blocks ≡ header.blocks
    → many (λ _. block_at header) header.blocks (flat_map block_bytes blocks ++ rest) ≡ Ok (blocks, rest)
unfolding many
blocks_again header blocks rest are count =
    let none : header.blocks - length blocks ≡ 0 = omega arith in
    many_again (λ _. block_at header) block_bytes (λ _. IsBlock header.phase header.blocks) (block_laws header) header.blocks blocks rest are (omega arith)
    ∙ rw none (ap (λ xs. Ok (xs, rest)) (append-nil blocks))

-- and one that stands there is read
pub script_again : (bytes : List ℕ) (s : Script) → IsScript bytes s → script_at bytes ≡ Ok s
unfolding script_at body_at
script_again bytes s is =
    let n = length s.blocks in
    let body : List ℕ = flat_map block_bytes s.blocks in
    let header : Header = record { size = 8 + length body; phase = s.phase; blocks = n } in
    let short : 8 + length body ≤ 65536 = omega (arith, is.short, ap length is.spelled, length-append (header_bytes s.phase n) body) in
    let said : header_at (header_bytes s.phase n ++ body) ≡ Ok header = header_again s.phase n body is.grammar.number short in
    let read : many (λ _. block_at header) n body ≡ Ok (s.blocks, []) = ap (many (λ _. block_at header) n) (sym (append-nil body)) ∙ blocks_again header s.blocks [] is.grammar.blocks refl in
    ap script_at is.spelled ∙ rw (said, read) refl

-- the fault of a script that is not read
pub script_fails : (bytes : List ℕ) (f : ActFault) → AreBytes bytes → script_at bytes ≡ Err f → IsFault bytes f
unfolding script_at body_at
script_fails bytes f all e = of (header_at bytes) refl e
  where
    ends : (header : Header) → header_at bytes ≡ Ok header → (r : Result (List (List Action) × List ℕ) ActFault) → many (λ _. block_at header) header.blocks (drop 8 bytes) ≡ r
        → (r >>= ending header) ≡ Err f → IsFault bytes f
    ends header said (Err g) is e' =
        let m = many_fails (λ _. block_at header) block_bytes (λ _. IsBlock header.phase header.blocks) (block_laws header) header.blocks (drop 8 bytes) g (AreBytes-drop 8 bytes all) is in
        let front = header_takes bytes header said in
        let same : g ≡ f = err_is {A = Script} g f e' in
        let wrong : block_at header m.rest ≡ Err f = m.wrong ∙ ap (λ h. Err h) same in
        inr (
          header,
          said,
          m.before,
          m.rest,
          record { are = m.good; here = front.spelled ∙ ap (λ r. header_bytes header.phase header.blocks ++ r) m.here.parts },
          inl (m.few, block_fails header m.rest f m.here.left wrong),
        )
    ends header said (Ok b) is e' =
        let t = many_takes (λ _. block_at header) block_bytes (λ _. IsBlock header.phase header.blocks) (block_laws header) header.blocks (drop 8 bytes) b (AreBytes-drop 8 bytes all) is in
        let front = header_takes bytes header said in
        let p = not_end b.1 (record { phase = header.phase; blocks = b.0 }) (fault_at header.size cause.Count b.1) f e' in
        inr (header, said, b.0, b.1, record { are = t.2; here = front.spelled ∙ ap (λ r. header_bytes header.phase header.blocks ++ r) t.0.parts }, inr (t.1, p.0, sym p.1))

    of : (r : Result Header ActFault) → header_at bytes ≡ r → (r >>= λ header. body_at header (drop 8 bytes)) ≡ Err f → IsFault bytes f
    of (Err g) is e' = inl (is ∙ ap (λ h. Err h) (err_is {A = Script} g f e'))
    of (Ok header) is e' = ends header is (many (λ _. block_at header) header.blocks (drop 8 bytes)) refl e'

-- and a script with that fault is not read
pub script_fails_again : (bytes : List ℕ) (f : ActFault) → AreBytes bytes → IsFault bytes f → script_at bytes ≡ Err f
unfolding script_at body_at
script_fails_again bytes f all (inl e) = rw e refl
script_fails_again bytes f all (inr (header, said, blocks, rest, has, inl (few, wrong))) =
    let body : drop 8 bytes ≡ flat_map block_bytes blocks ++ rest = ap (drop 8) has.here in
    let left : AreBytes rest = AreBytes-rest (flat_map block_bytes blocks) rest (rw body at (AreBytes-drop 8 bytes all)) in
    let stops : many (λ _. block_at header) header.blocks (flat_map block_bytes blocks ++ rest) ≡ Err f =
    many_fails_again (λ _. block_at header) block_bytes (λ _. IsBlock header.phase header.blocks) (block_laws header) header.blocks blocks rest f has.are few (block_fails_again header rest f left wrong) in
    rw (said, body, stops) refl
script_fails_again bytes f all (inr (header, said, blocks, rest, has, inr (count, some, place))) =
    let body : drop 8 bytes ≡ flat_map block_bytes blocks ++ rest = ap (drop 8) has.here in
    rw (said, body, blocks_again header blocks rest has.are count) (still_left rest (record { phase = header.phase; blocks = blocks }) (fault_at header.size cause.Count rest) some ∙ ap (λ g. Err g) (sym place))
