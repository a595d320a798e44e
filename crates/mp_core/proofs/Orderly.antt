-- The table sees to it that starts are orderly.
use Rattle.std.proofs.Common.{◌≡◌, ℕ, zero, suc, ◌+◌, ◌<◌, ◌≤◌, Bool, true, false, not, ◌||◌, cond, eqb, ltb, List, [], ◌∷◌, ◌++◌, map, sym, refl, ap, subst, ◌∙◌, arith, append_assoc, ⊎_elim, inl, inr, ◌⊎◌, true≢false, ne_eqb, ltb-true, append-nil, filter}
use Rattle.std.proofs.lemmas.Bool.{not-false, or_parts, cases_lt}
use Rattle.std.proofs.lemmas.List.Concat.{flat_map-append}
use Rattle.std.specs.List.{list_any}
use Rattle.pi_base.specs.Lists.{numbers}
use Rattle.mp_core.specs.{declared.event.MpEvent.MpEvent, declared.op.Op.Op, declared.reply.MpWord.MpWord}
use Rattle.mp_core.specs.declared.event.MpEvent.TheVariants.{All, This, Enable, Switch, Who, Turn}
use Rattle.mp_core.specs.declared.reply.MpWord.TheVariants.{Success, DeviceError, NotStarted, NotReady, NotFound, InvalidParameter, Unsupported}
use Rattle.mp_core.specs.Schedule.{Step, Starts, Turns, Part, is_busy, undone, ops_of}
use Rattle.mp_core.specs.Past.{Past, opening, is_enabled_ap, enabled_aps, first_refusal, is_empty, startup_all_aps, startup_this_ap, enable_disable_ap, switch_bsp, if_success, started, after, past_from}
use Rattle.mp_core.specs.Fair.{starts, IsFair, AreOrderly}
use Rattle.mp_core.proofs.Turned.{undone-starts, starts-turns}
use Rattle.mp_core.proofs.Fairness.{fair-turns, fair-starts, is_busy-undone}

pub ops_of-push : (p q : ℕ) (parts : List Part) (ops : List Op) → ops_of p (parts ++ record { on = q; ops = ops } ∷ []) ≡ ops_of p parts ++ cond (eqb q p) ops []
ops_of-push p q parts ops =
    flat_map-append (λ (part : Part). cond (eqb part.on p) part.ops []) parts (record { on = q; ops = ops } ∷ [])
    ∙ ap (λ x. ops_of p parts ++ x) (append-nil (cond (eqb q p) ops []))

-- another processor's start leaves a processor's operations
pub undone_other : (p q : ℕ) (s : List Step) (job : List Op) → eqb q p ≡ false → ops_of p (undone (s ++ Starts q job ∷ [])) ≡ ops_of p (undone s)
undone_other p q s job other =
    ap (ops_of p) (undone-starts s q job) ∙ ops_of-push p q (undone s) job
    ∙ ap (λ b. ops_of p (undone s) ++ cond b job []) other ∙ append-nil (ops_of p (undone s))

or_false : (b : Bool) → (b || false) ≡ b
or_false true = refl
or_false false = refl

or_assoc : (a b c : Bool) → ((a || b) || c) ≡ (a || (b || c))
or_assoc true b c = refl
or_assoc false b c = refl

pub starts-push : (p q : ℕ) (s : List Step) (job : List Op) → starts p (s ++ Starts q job ∷ []) ≡ (starts p s || eqb q p)
starts-push p q [] job = or_false (eqb q p)
starts-push p q (Turns on ∷ later) job = starts-push p q later job
starts-push p q (Starts on j ∷ later) job = ap (λ b. eqb on p || b) (starts-push p q later job) ∙ sym (or_assoc (eqb on p) (starts p later) (eqb q p))

-- one start more
pub orderly-starts : (n p : ℕ) (s : List Step) (job : List Op) → AreOrderly n s → p < n → ops_of p (undone s) ≡ [] → AreOrderly n (s ++ Starts p job ∷ [])
orderly-starts n p s job o lt idle = record {
  fair = fair-starts p s job o.fair idle;
  below = λ q le. starts-push q p s job ∙ (λ i. o.below q le i || ne_eqb p q (λ e. absurd (let same : p ≡ q = e in omega arith)) i);
}

-- one more each, for the numbers that pass a test
pub orderly_all : (n from count : ℕ) (f : ℕ → Bool) (s : List Step) (job : List Op) → AreOrderly n s → from + count ≤ n
    → ((p : ℕ) → from ≤ p → p < from + count → f p ≡ true → ops_of p (undone s) ≡ []) → AreOrderly n (s ++ map (λ p. Starts p job) (filter f (numbers from count)))
orderly_all n from zero f s job o le idle = subst (AreOrderly n) (sym (append-nil s)) o
orderly_all n from (suc count) f s job o le idle =
    elim (f from) as (λ b. f from ≡ b → AreOrderly n (s ++ map (λ p. Starts p job) (cond b (from ∷ filter f (numbers (from + 1) count)) (filter f (numbers (from + 1) count))))) [
      | true ↦ λ e. subst (AreOrderly n) (append_assoc s (Starts from job ∷ []) (map (λ p. Starts p job) (filter f (numbers (from + 1) count))))
          (orderly_all n (from + 1) count f (s ++ Starts from job ∷ []) job (orderly-starts n from s job o (omega arith) (idle from (omega arith) (omega arith) e)) (omega arith)
          (λ p low high pass. undone_other p from s job (ne_eqb from p (λ same. absurd (let e : from ≡ p = same in omega arith))) ∙ idle p (omega arith) (omega arith) pass))
      | false ↦ λ e. orderly_all n (from + 1) count f s job o (omega arith) (λ p low high pass. idle p (omega arith) (omega arith) pass)
    ] refl

-- a test that no number that passes another passes
at_or_above : (a b : ℕ) → a ≤ b → (a ≡ b) ⊎ (a < b)
at_or_above a b h = ⊎_elim (λ lt. inr lt) (λ le. inl (omega arith)) (cases_lt a b)

none_of : (f g : ℕ → Bool) (from count : ℕ) → list_any g (filter f (numbers from count)) ≡ false → (p : ℕ) → from ≤ p → p < from + count → f p ≡ true → g p ≡ false
none_of f g from zero h p low high pass = absurd (omega arith)
none_of f g from (suc count) h p low high pass =
    elim (f from) as (λ b. f from ≡ b → list_any g (cond b (from ∷ filter f (numbers (from + 1) count)) (filter f (numbers (from + 1) count))) ≡ false → g p ≡ false) [
      | true ↦ λ e r. ⊎_elim (λ same. subst (λ n. g n ≡ false) same (or_parts (g from) (list_any g (filter f (numbers (from + 1) count))) r).0)
          (λ above. none_of f g (from + 1) count (or_parts (g from) (list_any g (filter f (numbers (from + 1) count))) r).1 p (omega arith) (omega arith) pass) (at_or_above from p low)
      | false ↦ λ e r. ⊎_elim (λ same. absurd (true≢false (sym pass ∙ ap f (sym same) ∙ e)))
          (λ above. none_of f g (from + 1) count r p (omega arith) (omega arith) pass) (at_or_above from p low)
    ] refl h

empty_from : (ops : List Op) → not (is_empty ops) ≡ false → ops ≡ []
empty_from [] h = refl
empty_from (op ∷ rest) h = absurd (true≢false h)

pub idle_from : (p : ℕ) (s : List Step) → IsFair s → is_busy p s ≡ false → ops_of p (undone s) ≡ []
idle_from p s f h = empty_from (ops_of p (undone s)) (sym (is_busy-undone p s f) ∙ h)

-- a call that answers Success passes each refusal
abbrev pub four : Bool → Bool → Bool → Bool → MpWord → MpWord → MpWord
four a b c d third last = first_refusal ((a, DeviceError) ∷ (b, NotFound) ∷ (c, third) ∷ (d, last) ∷ [])

pub record ArePassed (a b c d : Bool) : Type 0 where
  pub device : a ≡ false
  pub found : b ≡ false
  pub valid : c ≡ false
  pub ready : d ≡ false

pub four_pass : (a b c d : Bool) (last : MpWord) → (last ≡ Success → ⊥) → four a b c d InvalidParameter last ≡ Success → ArePassed a b c d
four_pass true b c d last ne h = absurd (cc)
four_pass false true c d last ne h = absurd (cc)
four_pass false false true d last ne h = absurd (cc)
four_pass false false false true last ne h = absurd (ne h)
four_pass false false false false last ne h = record { device = refl; found = refl; valid = refl; ready = refl }

three_pass : (a b c : Bool) → first_refusal ((a, DeviceError) ∷ (b, NotStarted) ∷ (c, NotReady) ∷ []) ≡ Success → c ≡ false
three_pass true b c h = absurd (cc)
three_pass false true c h = absurd (cc)
three_pass false false true h = absurd (cc)
three_pass false false false h = refl

pub all_pass : (processors : ℕ) (past : Past) (by : ℕ) → startup_all_aps processors past by ≡ Success → list_any (λ p. is_busy p past.steps) (enabled_aps processors past) ≡ false
all_pass processors past by h = three_pass (not (eqb by past.bsp)) (is_empty (enabled_aps processors past)) (list_any (λ p. is_busy p past.steps) (enabled_aps processors past)) h

pub all_idle : (processors : ℕ) (past : Past) → IsFair past.steps → list_any (λ p. is_busy p past.steps) (enabled_aps processors past) ≡ false
    → (p : ℕ) → p < processors → is_enabled_ap past p ≡ true → ops_of p (undone past.steps) ≡ []
all_idle processors past f h p lt pass = idle_from p past.steps f (none_of (is_enabled_ap past) (λ q. is_busy q past.steps) 0 processors h p (omega arith) (omega arith) pass)

pub if_success_keeps : (P : Past → Type 0) (word : MpWord) (past changed : Past) → P past → (word ≡ Success → P changed) → P (if_success word past changed)
if_success_keeps P Success past changed same other = other refl
if_success_keeps P DeviceError past changed same other = same
if_success_keeps P NotStarted past changed same other = same
if_success_keeps P NotReady past changed same other = same
if_success_keeps P NotFound past changed same other = same
if_success_keeps P InvalidParameter past changed same other = same
if_success_keeps P Unsupported past changed same other = same

abbrev Stay : ℕ → Past → Type 0
Stay processors past = AreOrderly processors past.steps

this_starts : (processors : ℕ) (past : Past) (by on : ℕ) (job : List Op) → Stay processors past → startup_this_ap processors past by on ≡ Success → Stay processors (started (on ∷ []) job past)
this_starts processors past by on job o h =
    let pass = four_pass (not (eqb by past.bsp)) (not (ltb on processors)) (not (is_enabled_ap past on)) (is_busy on past.steps) NotReady (λ e. cc) h in
    orderly-starts processors on past.steps job o (ltb-true on processors (not-false (ltb on processors) pass.found)) (idle_from on past.steps o.fair pass.ready)

pub orderly-after : (processors : ℕ) (past : Past) (event : MpEvent) → Stay processors past → Stay processors (after processors past event)
orderly-after processors past (All by job) o = if_success_keeps (Stay processors) (startup_all_aps processors past by) past (started (enabled_aps processors past) job past) o
    (λ h. orderly_all processors 0 processors (is_enabled_ap past) past.steps job o (omega arith)
    (λ p low high pass. all_idle processors past o.fair (all_pass processors past by h) p (omega arith) pass))
orderly-after processors past (This by on job) o = if_success_keeps (Stay processors) (startup_this_ap processors past by on) past (started (on ∷ []) job past) o
    (this_starts processors past by on job o)
orderly-after processors past (Enable by on enabled) o = if_success_keeps (Stay processors) (enable_disable_ap processors past by on) past _ o (λ h. o)
orderly-after processors past (Switch by on enabled) o = if_success_keeps (Stay processors) (switch_bsp processors past by on) past _ o (λ h. o)
orderly-after processors past (Who by) o = o
orderly-after processors past (Turn on) o = record { fair = fair-turns on past.steps o.fair; below = λ p le. starts-turns p on past.steps ∙ o.below p le }

orderly_from : (processors : ℕ) (past : Past) (events : List MpEvent) → Stay processors past → Stay processors (past_from processors past events)
orderly_from processors past [] o = o
orderly_from processors past (event ∷ later) o = orderly_from processors (after processors past event) later (orderly-after processors past event o)

pub orderly : (processors : ℕ) (events : List MpEvent) → AreOrderly processors (past_from processors opening events).steps
orderly processors events = orderly_from processors opening events (record { fair = tt; below = λ p le. refl })
