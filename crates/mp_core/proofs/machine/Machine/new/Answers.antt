use borrow.Author.Count.{below_more}
use Rattle.std.proofs.Common.{◌≡◌, ℕ, zero, suc, ◌+◌, ◌%◌, ◌^◌, ◌<◌, List, ◌∷◌, map, replicate, sym, refl, ap, subst, ◌∙◌, arith, Bool, true, if◌then◌else◌, [], ◌++◌, length}
use Rattle.std.proofs.Math.ListN.{get_or, get_or-append, length-append}
use Rattle.std.proofs.Math.Seq.{get_or-append_seam}
use Rattle.pi_base.specs.Lists.{Each, numbers}
use Rattle.mp_core.specs.{declared.op.Op.Op, declared.processor.Processor.Processor, Calls.IsOp, Processor.IsNew}
use Rattle.mp_core.proofs.machine.Machine.new.Goals as goal

zero_cells : (from count : ℕ) → replicate count 0 ≡ map (λ c. 0 % 2 ^ 64) (numbers from count)
zero_cells from zero = refl
zero_cells from (suc count) = ap (λ cells. 0 ∷ cells) (zero_cells (from + 1) count)

abbrev AreNew : ℕ → List Processor → Type 0
AreNew count xs = (length xs ≡ count) × ((p : ℕ) (d : Processor) → p < count → IsNew (get_or xs p d))

one_more : (xs now : List Processor) (x : Processor) (count : ℕ) (ok : Bool) → now ≡ (if ok then xs ++ x ∷ [] else xs) → ok ≡ true
    → AreNew count xs → IsNew x → AreNew (count + 1) now
one_more xs now x count ok pushed fine are is =
    let grown : now ≡ xs ++ x ∷ [] = pushed ∙ ap (λ b. if b then xs ++ x ∷ [] else xs) fine in (
      omega (arith, ap length grown, length-append xs (x ∷ []), are.0),
      (λ p d lt. below_more (λ q. IsNew (get_or now q d)) count
          (λ q low.
          let there = ap (λ l. get_or l q d) grown ∙ get_or-append xs (x ∷ []) d q (omega (arith, low, are.0)) in
          subst IsNew (sym there) (are.1 q d low))
          (let last = ap (λ l. get_or l count d) grown ∙ ap (λ k. get_or (xs ++ x ∷ []) k d) (sym are.0) ∙ get_or-append_seam xs x [] d in
          subst IsNew (sym last) is)
          p lt),
    )

pub loop-preserved : goal.loop-preserved
loop-preserved c =
    one_more c.loop.idle.items c.push.new.self.items c.new.result c.loop.counter _ c.push.ensures.items
    c.if-is_err.ensures.negation c.loop.invariant c.new.ensures

pub returns : goal.returns
returns c =
    let all : c.loop.counter ≡ c.args.processors = omega arith in
    record {
      bsp = refl;
      bsp_below = c.requires;
      count = c.loop.invariant.0 ∙ all;
      each = λ p x lt.
          let new = c.loop.invariant.1 p x (omega arith) in
          record { enabled = new.0; rest = new.1; record_is = new.2; in_range = subst (λ (ops : List Op). Each (IsOp c.args.cells) ops) (sym new.1) tt };
      cells_are = c.in_ok-zeros.ensures ∙ zero_cells 0 c.args.cells;
    }
