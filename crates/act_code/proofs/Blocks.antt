-- One block, and the blocks of a script.
use Rattle.std.proofs.Common.{◌≡◌, ℕ, ◌-◌, Bool, true, false, List, ◌++◌, length, Result, Ok, Err, refl, sym, ap, subst, ◌∙◌, append_assoc, arith, inl, inr, if◌then◌else◌, flat_map, append-nil}
use Rattle.pi_base.specs.Field.{AreBytes, little_bytes}
use Rattle.act_code.specs.{declared.action.Action.Action, declared.header.Header.Header, declared.fault.ActFault.ActFault, Format.is_within}
use Rattle.act_code.specs.declared.fault.ActCause.TheVariants as cause
use Rattle.act_code.specs.ScriptReading.{◌>>=◌, fault_at, checked_at, count_at, many, ends_in_ret, block_at}
use Rattle.act_code.specs.Script.{action_bytes, block_bytes, IsSound, Each, IsBlock, IsBlockFault}
use Rattle.act_code.proofs.Formats.{Takes, takes_then, AreBytes-rest}
use Rattle.act_code.proofs.Checks.{action_laws, checked_fails, checked_fails_again, count_takes, count_again, count_fails, count_fails_again}
use Rattle.act_code.proofs.Lists.{bind_ok, err_is, ok_is, Laws, many_takes, many_again, many_fails, many_fails_again}

ended : {A : Type 0} (test : Bool) (x y : A) (f : ActFault) → (if test then Ok x else Err f) ≡ Ok y → (test ≡ true) × (x ≡ y)
ended true x y f e = (refl, ok_is x y e)
ended false x y f e = absurd cc

block_takes : (header : Header) (left : ℕ) (bytes : List ℕ) (x : List Action × List ℕ) → AreBytes bytes → block_at header bytes ≡ Ok x → Takes bytes (block_bytes x.0) x.1 × IsBlock header.phase header.blocks x.0
unfolding block_at
block_takes header left bytes x all e =
    let n = bind_ok (count_at header bytes) (λ n. many (checked_at header) n.0 n.1 >>= λ actions. if ends_in_ret actions.0 then Ok actions else Err (fault_at header.size cause.Block bytes)) x e in
    let a = bind_ok (many (checked_at header) n.0.0 n.0.1) (λ actions. if ends_in_ret actions.0 then Ok actions else Err (fault_at header.size cause.Block bytes)) x n.2 in
    let p = ended (ends_in_ret a.0.0) a.0 x (fault_at header.size cause.Block bytes) a.2 in
    let t = count_takes header bytes n.0 all n.1 in
    let u = many_takes (checked_at header) action_bytes (IsSound header.phase header.blocks) (action_laws header) n.0.0 n.0.1 a.0 t.0.left a.1 in
    let number : n.0.0 ≡ length a.0.0 = sym u.1 in
    let counted : Takes bytes (little_bytes 2 (length a.0.0)) n.0.1 = rw number at t.0 in
    let within : is_within 1 1024 (length a.0.0) ≡ true = rw number at t.1 in
    let sound : Each (IsSound header.phase header.blocks) (length a.0.0) a.0.0 = subst (λ k. Each (IsSound header.phase header.blocks) k a.0.0) number u.2 in
    subst (λ (y : List Action × List ℕ). Takes bytes (block_bytes y.0) y.1 × IsBlock header.phase header.blocks y.0) p.1
    (takes_then bytes (little_bytes 2 (length a.0.0)) n.0.1 (flat_map action_bytes a.0.0) a.0.1 counted u.0, record { number = within; sound = sound; ret = p.0 })

-- sound actions, all of them
actions_again : (header : Header) (actions : List Action) (rest : List ℕ) → Each (IsSound header.phase header.blocks) (length actions) actions → many (checked_at header) (length actions) (flat_map action_bytes actions ++ rest) ≡ Ok (actions, rest)
unfolding many
actions_again header actions rest sound =
    let none : length actions - length actions ≡ 0 = omega arith in
    many_again (checked_at header) action_bytes (IsSound header.phase header.blocks) (action_laws header) (length actions) actions rest sound (omega arith)
    ∙ rw none (ap (λ xs. Ok (xs, rest)) (append-nil actions))

block_reads : (header : Header) (actions : List Action) (rest : List ℕ) → is_within 1 1024 (length actions) ≡ true → Each (IsSound header.phase header.blocks) (length actions) actions
    → block_at header (block_bytes actions ++ rest) ≡ (if ends_in_ret actions then Ok (actions, rest) else Err (fault_at header.size cause.Block (block_bytes actions ++ rest)))
unfolding block_at
block_reads header actions rest number sound =
    let grouped : block_bytes actions ++ rest ≡ little_bytes 2 (length actions) ++ (flat_map action_bytes actions ++ rest) = append_assoc (little_bytes 2 (length actions)) (flat_map action_bytes actions) rest in
    let counted : count_at header (block_bytes actions ++ rest) ≡ Ok (length actions, flat_map action_bytes actions ++ rest) = ap (count_at header) grouped ∙ count_again header (length actions) (flat_map action_bytes actions ++ rest) number in
    rw (counted, actions_again header actions rest sound) refl

block_again : (header : Header) (left : ℕ) (actions : List Action) (rest : List ℕ) → IsBlock header.phase header.blocks actions → block_at header (block_bytes actions ++ rest) ≡ Ok (actions, rest)
block_again header left actions rest block = block_reads header actions rest block.number block.sound ∙ rw block.ret refl

pub block_laws : (header : Header) → Laws (λ _. block_at header) block_bytes (λ _. IsBlock header.phase header.blocks)
block_laws header = record { takes = block_takes header; again = block_again header }

not_ended : {A : Type 0} (test : Bool) (x : A) (f g : ActFault) → (if test then Ok x else Err f) ≡ Err g → (test ≡ false) × (f ≡ g)
not_ended true x f g e = absurd cc
not_ended false x f g e = (refl, cc)

-- the fault of a block that is not read
pub block_fails : (header : Header) (bytes : List ℕ) (f : ActFault) → AreBytes bytes → block_at header bytes ≡ Err f → IsBlockFault header bytes f
unfolding block_at
block_fails header bytes f all e = of (count_at header bytes) refl e
  where
    acted : (n : ℕ × List ℕ) → Takes bytes (little_bytes 2 n.0) n.1 × (is_within 1 1024 n.0 ≡ true) → (r : Result (List Action × List ℕ) ActFault) → many (checked_at header) n.0 n.1 ≡ r
        → (r >>= λ actions. if ends_in_ret actions.0 then Ok actions else Err (fault_at header.size cause.Block bytes)) ≡ Err f → IsBlockFault header bytes f
    acted n t (Err g) is e' =
        let m = many_fails (checked_at header) action_bytes (IsSound header.phase header.blocks) (action_laws header) n.0 n.1 g t.0.left is in
        let same : g ≡ f = err_is {A = List Action × List ℕ} g f e' in
        let w = checked_fails header (n.0 - length m.before) m.rest g m.here.left m.wrong in
        subst (λ (h : ActFault). IsBlockFault header bytes h) same (inr (inl (record {
          number = n.0;
          before = m.before;
          rest = m.rest;
          counted = t.1;
          sound = m.good;
          few = m.few;
          here = t.0.parts ∙ ap (λ x. little_bytes 2 n.0 ++ x) m.here.parts;
          wrong = w.0;
          place = w.1;
        })))
    acted n t (Ok a) is e' =
        let u = many_takes (checked_at header) action_bytes (IsSound header.phase header.blocks) (action_laws header) n.0 n.1 a t.0.left is in
        let p = not_ended (ends_in_ret a.0) a (fault_at header.size cause.Block bytes) f e' in
        let number : n.0 ≡ length a.0 = sym u.1 in
        let counted : Takes bytes (little_bytes 2 (length a.0)) n.1 = rw number at t.0 in
        inr (inr (record {
          actions = a.0;
          counted = rw number at t.1;
          sound = subst (λ k. Each (IsSound header.phase header.blocks) k a.0) number u.2;
          here = (a.1, (takes_then bytes (little_bytes 2 (length a.0)) n.1 (flat_map action_bytes a.0) a.1 counted u.0).parts);
          no_ret = p.0;
          place = sym p.1;
        }))

    of : (r : Result (ℕ × List ℕ) ActFault) → count_at header bytes ≡ r
        → (r >>= λ n. many (checked_at header) n.0 n.1 >>= λ actions. if ends_in_ret actions.0 then Ok actions else Err (fault_at header.size cause.Block bytes)) ≡ Err f → IsBlockFault header bytes f
    of (Err g) is e' =
        let same : g ≡ f = err_is {A = List Action × List ℕ} g f e' in
        inl (count_fails header bytes f (is ∙ ap (λ h. Err h) same))
    of (Ok n) is e' = acted n (count_takes header bytes n all is) (many (checked_at header) n.0 n.1) refl e'

-- and a block with that fault is not read
pub block_fails_again : (header : Header) (bytes : List ℕ) (f : ActFault) → AreBytes bytes → IsBlockFault header bytes f → block_at header bytes ≡ Err f
unfolding block_at
block_fails_again header bytes f all (inl (none, place)) = rw (count_fails_again header bytes all none, place) refl
block_fails_again header bytes f all (inr (inl w)) =
    let text : List ℕ = flat_map action_bytes w.before in
    let counted : count_at header bytes ≡ Ok (w.number, text ++ w.rest) = ap (count_at header) w.here ∙ count_again header w.number (text ++ w.rest) w.counted in
    let behind : AreBytes (text ++ w.rest) = AreBytes-rest (little_bytes 2 w.number) (text ++ w.rest) (rw w.here at all) in
    let left : AreBytes w.rest = AreBytes-rest text w.rest behind in
    let wrong : checked_at header (w.number - length w.before) w.rest ≡ Err f = checked_fails_again header (w.number - length w.before) w.rest f.cause left w.wrong ∙ ap (λ g. Err g) (sym w.place) in
    rw (counted, many_fails_again (checked_at header) action_bytes (IsSound header.phase header.blocks) (action_laws header) w.number w.before w.rest f w.sound w.few wrong) refl
block_fails_again header bytes f all (inr (inr w)) =
    let read = block_reads header w.actions w.here.0 w.counted w.sound in
    ap (block_at header) w.here.1 ∙ read ∙ rw w.no_ret (ap (λ (b : List ℕ). Err (fault_at header.size cause.Block b)) (sym w.here.1) ∙ ap (λ (g : ActFault). Err g) (sym w.place))
