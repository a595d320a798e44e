-- Starting the enabled APs one by one.
use Rattle.std.proofs.Common.{◌≡◌, ℕ, zero, suc, ◌+◌, ◌<◌, ◌≤◌, Bool, true, false, cond, List, [], ◌∷◌, ◌++◌, map, length, get_or, set, sym, ap, subst, ◌∙◌, arith, append_assoc, ne_eqb, append-nil, Bor, filter}
use Rattle.std.proofs.lemmas.List.{map-append}
use Rattle.std.specs.List.{list_any}
use Rattle.pi_base.specs.Lists.{Each, numbers}
use Rattle.mp_core.specs.{declared.machine.Machine.Machine, declared.op.Op.Op, declared.processor.Processor.Processor, Calls.IsOp}
use Rattle.mp_core.specs.{Fair.AreOrderly, Machine.IsMachine}
use Rattle.mp_core.specs.Past.{Past, enabled_aps, is_enabled_ap, started}
use Rattle.mp_core.specs.Schedule.{Step, Starts, is_busy, undone, ops_of}
use Rattle.mp_core.proofs.Orderly.{all_idle, orderly_all, undone_other}
use Rattle.mp_core.proofs.{Searching.filter_push, Standing.start_stands}

-- a processor's operations stay while lower processors start
undone_above : (p from count : ℕ) (f : ℕ → Bool) (s : List Step) (job : List Op) → from + count ≤ p
    → ops_of p (undone (s ++ map (λ q. Starts q job) (filter f (numbers from count)))) ≡ ops_of p (undone s)
undone_above p from zero f s job le = ap (λ x. ops_of p (undone x)) (append-nil s)
undone_above p from (suc count) f s job le =
    elim (f from) as (λ b. ops_of p (undone (s ++ map (λ q. Starts q job) (cond b (from ∷ filter f (numbers (from + 1) count)) (filter f (numbers (from + 1) count))))) ≡ ops_of p (undone s)) [
      | true ↦ ap (λ x. ops_of p (undone x)) (sym (append_assoc s (Starts from job ∷ []) (map (λ q. Starts q job) (filter f (numbers (from + 1) count)))))
          ∙ undone_above p (from + 1) count f (s ++ Starts from job ∷ []) job (omega arith)
          ∙ undone_other p from s job (ne_eqb from p (λ e. let same : from ≡ p = e in omega arith))
      | false ↦ undone_above p (from + 1) count f s job (omega arith)
    ]

-- the enabled APs below p have started
abbrev pub below : Past → List Op → ℕ → Past
below past job p = started (filter (is_enabled_ap past) (numbers 0 p)) job past

pub below_orderly : (processors : ℕ) (past : Past) (job : List Op) (p : ℕ) → AreOrderly processors past.steps → p ≤ processors
    → list_any (λ q. is_busy q past.steps) (enabled_aps processors past) ≡ false → AreOrderly processors (below past job p).steps
below_orderly processors past job p o le ready =
    orderly_all processors 0 p (is_enabled_ap past) past.steps job o (omega arith) (λ q low high pass. all_idle processors past o.fair ready q (omega arith) pass)

-- p starts too
pub next_starts : (processors cells : ℕ) (past : Past) (m now : Machine) (p : ℕ) (job : Bor (List Op)) → AreOrderly processors past.steps → p < processors
    → list_any (λ q. is_busy q past.steps) (enabled_aps processors past) ≡ false → IsMachine processors cells (below past job.now p) m → Each (IsOp cells) job.now
    → is_enabled_ap past p ≡ true → now.bsp ≡ m.bsp → now.cells ≡ m.cells → length now.processors.items ≡ length m.processors.items
    → ((x : Processor) → now.processors.items ≡ set m.processors.items p (record (get_or m.processors.items p x) { rest = job }))
    → IsMachine processors cells (below past job.now (p + 1)) now
next_starts processors cells past m now p job o lt ready h range pass bsp cells_same count items =
    let f : ℕ → Bool = is_enabled_ap past in
    let idle : ops_of p (undone (below past job.now p).steps) ≡ [] =
    undone_above p 0 p f past.steps job.now (omega arith) ∙ all_idle processors past o.fair ready p lt pass in
    let more : filter f (numbers 0 (p + 1)) ≡ filter f (numbers 0 p) ++ p ∷ [] = filter_push f p ∙ ap (λ b. filter f (numbers 0 p) ++ cond b (p ∷ []) []) pass in
    let steps : (below past job.now p).steps ++ Starts p job.now ∷ [] ≡ (below past job.now (p + 1)).steps =
    append_assoc past.steps (map (λ q. Starts q job.now) (filter f (numbers 0 p))) (Starts p job.now ∷ [])
    ∙ ap (λ x. past.steps ++ x) (sym (map-append (λ q. Starts q job.now) (filter f (numbers 0 p)) (p ∷ [])))
    ∙ ap (λ x. past.steps ++ map (λ q. Starts q job.now) x) (sym more) in
    subst (λ s. IsMachine processors cells (record past { steps = s }) now) steps
    (start_stands processors cells (below past job.now p) m now p job h lt idle range bsp cells_same count items)

-- p does not
pub next_passes : (processors cells : ℕ) (past : Past) (m : Machine) (p : ℕ) (job : List Op) → IsMachine processors cells (below past job p) m → is_enabled_ap past p ≡ false
    → IsMachine processors cells (below past job (p + 1)) m
next_passes processors cells past m p job h pass =
    let f : ℕ → Bool = is_enabled_ap past in
    let same : filter f (numbers 0 (p + 1)) ≡ filter f (numbers 0 p) =
    filter_push f p ∙ ap (λ b. filter f (numbers 0 p) ++ cond b (p ∷ []) []) pass ∙ append-nil (filter f (numbers 0 p)) in
    subst (λ ps. IsMachine processors cells (started ps job past) m) (sym same) h
