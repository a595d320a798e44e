-- What a handle's stretch tells of the list.
use Rattle.std.proofs.Common.{◌≡◌, ℕ, zero, suc, ◌<◌, ◌≤◌, ◌==◌, Bool, true, false, ◌||◌, cond, List, [], ◌∷◌, length, refl, sym, ap, ◌∙◌, arith, nat_lt, nat_le, insert}
use Rattle.std.specs.List.{AllWithin}
use Rattle.std.proofs.lemmas.Bool.Decides.{nat_tests}
use Rattle.store_model.specs.{declared.interface.Interface.Interface, HandleState.placed}
use Rattle.dxe_core.specs.Places.{IsStretch, is_live_in}

-- the places of two searches
abbrev Below : ℕ → Interface → Type 0
Below handle i = nat_lt i.handle handle ≡ true

abbrev NotBelow : ℕ → Interface → Type 0
NotBelow handle i = nat_lt i.handle handle ≡ false

abbrev NotAbove : ℕ → Interface → Type 0
NotAbove handle i = nat_le i.handle handle ≡ true

abbrev Above : ℕ → Interface → Type 0
Above handle i = nat_le i.handle handle ≡ false

pub record AreCuts (handle : ℕ) (is : List Interface) (begin end : ℕ) : Type 0 where
  pub begin_within : begin ≤ length is
  pub end_within : end ≤ length is
  pub below : AllWithin (λ i. nat_lt i.handle handle ≡ true) is 0 begin
  pub not_below : AllWithin (λ i. nat_lt i.handle handle ≡ false) is begin (length is)
  pub not_above : AllWithin (λ i. nat_le i.handle handle ≡ true) is 0 end
  pub above : AllWithin (λ i. nat_le i.handle handle ≡ false) is end (length is)

-- one item fewer
earlier : (P : Interface → Type 0) (i : Interface) (is : List Interface) (low high : ℕ) → AllWithin P (i ∷ is) (suc low) (suc high) → AllWithin P is low high
earlier P i is low high a k d from to = a (suc k) d (omega (arith, from)) (omega (arith, to))

from_start : (P : Interface → Type 0) (i : Interface) (is : List Interface) (high : ℕ) → AllWithin P (i ∷ is) 0 (suc high) → AllWithin P is 0 high
from_start P i is high a k d from to = a (suc k) d (omega arith) (omega (arith, to))

none_from : (P : Interface → Type 0) (is : List Interface) → AllWithin P is 0 0
none_from P is k d from to = absurd (omega (arith, to))

pub stretch_is : (handle : ℕ) (is : List Interface) (begin end : ℕ) → AreCuts handle is begin end → IsStretch handle is begin end
stretch_is handle [] begin end c = let b = c.begin_within in let e = c.end_within in (omega (arith, b), omega (arith, e))
stretch_is handle (i ∷ is) (suc begin) (suc end) c =
    let test = c.below 0 i (omega arith) (omega arith) in
    let less : i.handle < handle = grind (arith, nat_tests) in
    let b = c.begin_within in
    let e = c.end_within in (
      less,
      stretch_is handle is begin end (record {
        begin_within = omega (arith, b);
        end_within = omega (arith, e);
        below = from_start (Below handle) i is begin c.below;
        not_below = earlier (NotBelow handle) i is begin (length is) c.not_below;
        not_above = from_start (NotAbove handle) i is end c.not_above;
        above = earlier (Above handle) i is end (length is) c.above;
      }),
    )
stretch_is handle (i ∷ is) (suc begin) zero c =
    let below = c.below 0 i (omega arith) (omega arith) in
    let above = c.above 0 i (omega arith) (omega arith) in
    let less : i.handle < handle = grind (arith, nat_tests) in
    let more : handle < i.handle = grind (arith, nat_tests) in
    omega (arith, less, more)
stretch_is handle (i ∷ is) zero (suc end) c =
    let not_below = c.not_below 0 i (omega arith) (omega arith) in
    let not_above = c.not_above 0 i (omega arith) (omega arith) in
    let most : i.handle ≤ handle = grind (arith, nat_tests) in
    let least : handle ≤ i.handle = grind (arith, nat_tests) in
    let e = c.end_within in (
      omega (arith, most, least),
      stretch_is handle is zero end (record {
        begin_within = omega arith;
        end_within = omega (arith, e);
        below = none_from (Below handle) is;
        not_below = from_start (NotBelow handle) i is (length is) c.not_below;
        not_above = from_start (NotAbove handle) i is end c.not_above;
        above = earlier (Above handle) i is end (length is) c.above;
      }),
    )
stretch_is handle (i ∷ is) zero zero c =
    let above = c.above 0 i (omega arith) (omega arith) in
    let more : handle < i.handle = grind (arith, nat_tests) in (
      more,
      stretch_is handle is zero zero (record {
        begin_within = omega arith;
        end_within = omega arith;
        below = none_from (Below handle) is;
        not_below = from_start (NotBelow handle) i is (length is) c.not_below;
        not_above = none_from (NotAbove handle) is;
        above = from_start (Above handle) i is (length is) c.above;
      }),
    )

pub within : (handle : ℕ) (is : List Interface) (begin end : ℕ) → IsStretch handle is begin end → (begin ≤ end) × (end ≤ length is)
within handle [] begin end s = let b = s.0 in let e = s.1 in (omega (arith, b, e), omega (arith, e))
within handle (i ∷ is) (suc begin) (suc end) s = let on = within handle is begin end s.1 in let b = on.0 in let e = on.1 in (omega (arith, b), omega (arith, e))
within handle (i ∷ is) (suc begin) zero s = absurd s
within handle (i ∷ is) zero (suc end) s = let on = within handle is zero end s.1 in let e = on.1 in (omega arith, omega (arith, e))
within handle (i ∷ is) zero zero s = (omega arith, omega arith)

pub less_by : (a b : ℕ) → a ≤ b → (a ≡ b → ⊥) → a < b
less_by a b le other = by (a == b) refl
  where
    by : (t : Bool) → (a == b) ≡ t → a < b
    by true e = let same : a ≡ b = grind (arith, nat_tests) in absurd (other same)
    by false e = grind (arith, nat_tests)

-- whether a handle is live
pub live : (handle : ℕ) (is : List Interface) (begin end : ℕ) → IsStretch handle is begin end → begin < end → is_live_in is handle ≡ true
live handle [] begin end s less = let b = s.0 in let e = s.1 in absurd (omega (arith, b, e, less))
live handle (i ∷ is) (suc begin) (suc end) s less =
    ap (λ b. (i.handle == handle) || b) (live handle is begin end s.1 (omega (arith, less))) ∙ or_true (i.handle == handle)
  where
    or_true : (b : Bool) → (b || true) ≡ true
    or_true true = refl
    or_true false = refl
live handle (i ∷ is) (suc begin) zero s less = absurd s
live handle (i ∷ is) zero (suc end) s less = let is_it = s.0 in let same : (i.handle == handle) ≡ true = grind (arith, nat_tests) in ap (λ b. b || is_live_in is handle) same
live handle (i ∷ is) zero zero s less = absurd (omega (arith, less))

pub not_live : (handle : ℕ) (is : List Interface) (begin end : ℕ) → IsStretch handle is begin end → begin ≡ end → is_live_in is handle ≡ false
not_live handle [] begin end s same = refl
not_live handle (i ∷ is) (suc begin) (suc end) s same =
    let less = s.0 in
    let other : (i.handle == handle) ≡ false = grind (arith, nat_tests) in ap (λ b. b || is_live_in is handle) other ∙ not_live handle is begin end s.1 (omega (arith, same))
not_live handle (i ∷ is) (suc begin) zero s same = absurd s
not_live handle (i ∷ is) zero (suc end) s same = absurd (omega (arith, same))
not_live handle (i ∷ is) zero zero s same =
    let more = s.0 in
    let other : (i.handle == handle) ≡ false = grind (arith, nat_tests) in ap (λ b. b || is_live_in is handle) other ∙ not_live handle is zero zero s.1 refl

-- a new interface is placed behind a handle's stretch
pub placed_is : (new : Interface) (is : List Interface) (begin end : ℕ) → IsStretch new.handle is begin end → placed new is ≡ insert is end new
placed_is new [] begin end s = sym (ap (λ k. insert [] k new) s.1)
placed_is new (i ∷ is) (suc begin) (suc end) s =
    let less = s.0 in
    let behind : nat_lt new.handle i.handle ≡ false = grind (arith, nat_tests) in
    ap (λ b. cond b (new ∷ i ∷ is) (i ∷ placed new is)) behind ∙ ap (λ l. i ∷ l) (placed_is new is begin end s.1)
placed_is new (i ∷ is) (suc begin) zero s = absurd s
placed_is new (i ∷ is) zero (suc end) s =
    let same = s.0 in
    let behind : nat_lt new.handle i.handle ≡ false = grind (arith, nat_tests) in
    ap (λ b. cond b (new ∷ i ∷ is) (i ∷ placed new is)) behind ∙ ap (λ l. i ∷ l) (placed_is new is zero end s.1)
placed_is new (i ∷ is) zero zero s =
    let more = s.0 in
    let here : nat_lt new.handle i.handle ≡ true = grind (arith, nat_tests) in ap (λ b. cond b (new ∷ i ∷ is) (i ∷ placed new is)) here
