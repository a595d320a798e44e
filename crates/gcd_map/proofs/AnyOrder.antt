-- Stretches may come in any order: those that come in one come in each other one, and leave the same states.
use Rattle.std.proofs.Common.{◌≡◌, ◌≢◌, ◌⊎◌, inl, inr, ℕ, ◌+◌, ◌<◌, ◌≤◌, Bool, true, false, ◌&&◌, nat_le, nat_lt, if◌then◌else◌, List, [], ◌∷◌, refl, sym, ap, ◌∙◌, subst, arith, ◌^◌, sum_by, IsPermutation}
use Rattle.std.specs.List.{AllByRecursion}
use Rattle.std.proofs.lemmas.List.Elements.{All-from_recursion, recursion_from_All}
use Rattle.std.proofs.{lemmas.List.Sums.fold-append, lemmas.List.Sums.sum_by-cons, lemmas.Bool.Decides.nat_tests}
use Rattle.std.proofs.lemmas.List.Sorted.{All-permutation, IsPermutation-sym, sum_by-IsPermutation}
use Rattle.gcd_map.specs.declared.state.GcdKind.TheVariants.{NonExistent, System}
use Rattle.gcd_map.specs.{declared.state.SpaceState.SpaceState, declared.hob.HobStretch.HobStretch, declared.range.GcdRange.GcdRange}
use Rattle.gcd_map.specs.AddressSpace.{MemorySpace, Change, changed, untouched, state_at, with_change, free_of, allocated_of}
use Rattle.gcd_map.specs.{Ranges.Cover, Stretch.AllIn, SpaceMap.MapState, SpaceMap.Shows, Commands.IsAbsent, Commands.IsFreeOf}
use Rattle.gcd_map.specs.HobMap.{MayCome, Comes as ComesOfKind, came, MayBeTaken, taken, Follow}
use Rattle.gcd_map.specs.declared.state.Effect.TheVariants.{Becomes}

-- what a stretch makes of its addresses
abbrev turn : (HobStretch → SpaceState) → HobStretch → Change
turn state s = record { base = s.base; len = s.len; effect = Becomes (state s) }

abbrev turned : (HobStretch → SpaceState) → MemorySpace → HobStretch → MemorySpace
turned state space s = with_change space (turn state s)

-- how stretches come: what each of their addresses has to be before, which stretches are used, and what their addresses are then, which is not what it has to be
record Coming : Type 1 where
  before : SpaceState → Type 0
  used : HobStretch → Type 0
  state : HobStretch → SpaceState
  clash : (s : HobStretch) → used s → before (state s) → ⊥

-- a stretch may follow: it has an address, ends in the space, and each of its addresses is as it has to be
abbrev May : Coming → MemorySpace → HobStretch → Type 0
May c space s = (0 < s.len) × (s.base + s.len ≤ space.limit) × AllIn (state_at space) s.base (s.base + s.len) c.before

abbrev Comes : Coming → MemorySpace → HobStretch → Type 0
Comes c space s = May c space s × c.used s

abbrev holds : ℕ → HobStretch → Bool
holds a s = nat_le s.base a && nat_lt a (s.base + s.len)

-- how many stretches hold an address
abbrev weight : ℕ → HobStretch → ℕ
weight a s = if holds a s then 1 else 0

weight_at : (a : ℕ) (s : HobStretch) (b : Bool) → holds a s ≡ b → weight a s ≡ (if b then 1 else 0)
weight_at a s b is = ap (λ b. if b then 1 else 0) is

abbrev pub all_came : (HobStretch → SpaceState) → MemorySpace → List HobStretch → MemorySpace
all_came state space [] = space
all_came state space (s ∷ rest) = all_came state (turned state space s) rest

came_at : (state : HobStretch → SpaceState) (space : MemorySpace) (s : HobStretch) (a : ℕ)
    → state_at (turned state space s) a ≡ (if holds a s then state s else state_at space a)
came_at state space s a = ap (λ (f : ℕ → SpaceState). f a) (fold-append changed untouched space.changes (turn state s ∷ []))

came_here : (state : HobStretch → SpaceState) (space : MemorySpace) (s : HobStretch) (a : ℕ) → holds a s ≡ true
    → state_at (turned state space s) a ≡ state s
came_here state space s a here = came_at state space s a ∙ ap (λ b. if b then state s else state_at space a) here

came_else : (state : HobStretch → SpaceState) (space : MemorySpace) (s : HobStretch) (a : ℕ) → holds a s ≡ false
    → state_at (turned state space s) a ≡ state_at space a
came_else state space s a other = came_at state space s a ∙ ap (λ b. if b then state s else state_at space a) other

holds_in : (a : ℕ) (s : HobStretch) → s.base ≤ a → a < s.base + s.len → holds a s ≡ true
holds_in a s low high = grind (arith, nat_tests, low, high)

-- what is absent when another has come was absent before, and is not in the other
before_came : (c : Coming) (space : MemorySpace) (s : HobStretch) (a : ℕ) (b : Bool) → holds a s ≡ b → c.used s
    → c.before (state_at (turned c.state space s) a) → (b ≡ false) × c.before (state_at space a)
before_came c space s a true is used absent = absurd (c.clash s used (subst c.before (came_here c.state space s a is) absent))
before_came c space s a false is used absent = (refl, subst c.before (came_else c.state space s a is) absent)

earlier : (c : Coming) (space : MemorySpace) (s : HobStretch) → c.used s → (all : List HobStretch)
    → AllByRecursion (Comes c (turned c.state space s)) all → AllByRecursion (Comes c space) all
earlier c space s used [] each = tt
earlier c space s used (t ∷ all) each =
    (((each.0.0.0, each.0.0.1, λ a low high. (before_came c space s a (holds a s) refl used (each.0.0.2 a low high)).1), each.0.1), earlier c space s used all each.1)

and_both : (p q : Bool) → (p && q) ≡ true → (p ≡ true) × (q ≡ true)
and_both true q both = (refl, both)
and_both false q both = absurd (cc)

in_holds : (a : ℕ) (s : HobStretch) → holds a s ≡ true → (s.base ≤ a) × (a < s.base + s.len)
in_holds a s is =
    let both = and_both (nat_le s.base a) (nat_lt a (s.base + s.len)) is in
    (grind (arith, nat_tests, both.0), grind (arith, nat_tests, both.1))

-- what may come holds no address of what came
weighs_none : (c : Coming) (space : MemorySpace) (s t : HobStretch) (a : ℕ) (b : Bool) → holds a t ≡ b → c.used s → holds a s ≡ true
    → Comes c (turned c.state space s) t → weight a t ≡ 0
weighs_none c space s t a true is used here comes =
    let within : (t.base ≤ a) × (a < t.base + t.len) = in_holds a t is in
    let no : true ≡ false = sym here ∙ (before_came c space s a (holds a s) refl used (comes.0.2 a within.0 within.1)).0 in
    absurd (cc)
weighs_none c space s t a false is used here comes = weight_at a t false is

none_holds : (c : Coming) (space : MemorySpace) (s : HobStretch) (a : ℕ) → c.used s → holds a s ≡ true → (all : List HobStretch)
    → AllByRecursion (Comes c (turned c.state space s)) all → sum_by (weight a) all ≡ 0
none_holds c space s a used here [] each = refl
none_holds c space s a used here (t ∷ all) each =
    omega (arith, sum_by-cons (weight a) t all, weighs_none c space s t a (holds a t) refl used here each.0, none_holds c space s a used here all each.1)

each_of : (c : Coming) (space : MemorySpace) (all : List HobStretch) (end : MemorySpace) → Follow (Comes c) (turned c.state) space all end
    → AllByRecursion (Comes c space) all
each_of c space [] end follow = tt
each_of c space (s ∷ all) end follow = (follow.0, earlier c space s follow.0.1 all (each_of c (turned c.state space s) all end follow.1))

once_more : (c : Coming) (space : MemorySpace) (s : HobStretch) (all : List HobStretch) (a : ℕ) (b : Bool) → holds a s ≡ b → c.used s
    → AllByRecursion (Comes c (turned c.state space s)) all → sum_by (weight a) all ≤ 1 → weight a s + sum_by (weight a) all ≤ 1
once_more c space s all a true is used each once = omega (arith, weight_at a s true is, none_holds c space s a used is all each)
once_more c space s all a false is used each once = omega (arith, weight_at a s false is, once)

once_of : (c : Coming) (space : MemorySpace) (all : List HobStretch) (end : MemorySpace) → Follow (Comes c) (turned c.state) space all end
    → (a : ℕ) → sum_by (weight a) all ≤ 1
once_of c space [] end follow a = omega arith
once_of c space (s ∷ all) end follow a =
    let more = once_more c space s all a (holds a s) refl follow.0.1 (each_of c (turned c.state space s) all end follow.1) (once_of c (turned c.state space s) all end follow.1 a) in
    omega (arith, sum_by-cons (weight a) s all, more)

follow_end : (c : Coming) (space : MemorySpace) (all : List HobStretch) (end : MemorySpace)
    → Follow (Comes c) (turned c.state) space all end → end ≡ all_came c.state space all
follow_end c space [] end follow = follow
follow_end c space (s ∷ all) end follow = follow_end c (turned c.state space s) all end follow.1

-- those that may come first, of which no address is in two, may come one after another
weighs : (a : ℕ) (t : HobStretch) → t.base ≤ a → a < t.base + t.len → weight a t ≡ 1
weighs a t low high = weight_at a t true (holds_in a t low high)

not_here : (a : ℕ) (s : HobStretch) (b : Bool) → holds a s ≡ b → weight a s ≡ 0 → holds a s ≡ false
not_here a s true is none = let no : weight a s ≡ 1 = weight_at a s true is in absurd (omega (arith, no, none))
not_here a s false is none = is

later : (c : Coming) (space : MemorySpace) (s : HobStretch) (all : List HobStretch) → AllByRecursion (Comes c space) all → ((a : ℕ)
    → weight a s + sum_by (weight a) all ≤ 1) → AllByRecursion (Comes c (turned c.state space s)) all
later c space s [] each once = tt
later c space s (t ∷ all) each once =
    let apart = λ (a : ℕ) (low : t.base ≤ a) (high : a < t.base + t.len).
    let none : weight a s ≡ 0 = omega (arith, once a, sum_by-cons (weight a) t all, weighs a t low high) in not_here a s (holds a s) refl none in (
      ((each.0.0.0, each.0.0.1, λ a low high. subst c.before (sym (came_else c.state space s a (apart a low high))) (each.0.0.2 a low high)), each.0.1),
      later c space s all each.1 (λ a. omega (arith, once a, sum_by-cons (weight a) t all)),
    )

follow_all : (c : Coming) (space : MemorySpace) (all : List HobStretch) → AllByRecursion (Comes c space) all → ((a : ℕ)
    → sum_by (weight a) all ≤ 1) → Follow (May c) (turned c.state) space all (all_came c.state space all)
follow_all c space [] each once = refl
follow_all c space (s ∷ all) each once =
    (each.0.0, follow_all c (turned c.state space s) all (later c space s all each.1 (λ a. omega (arith, once a, sum_by-cons (weight a) s all))) (λ a. omega (arith, once a, sum_by-cons (weight a) s all)))

-- the states at the end: those of the stretches, and elsewhere those before
untold : (state : HobStretch → SpaceState) (space : MemorySpace) (all : List HobStretch) (a : ℕ) → sum_by (weight a) all ≡ 0
    → state_at (all_came state space all) a ≡ state_at space a
untold state space [] a none = refl
untold state space (s ∷ all) a none =
    let first : weight a s ≡ 0 = omega (arith, none, sum_by-cons (weight a) s all) in
    untold state (turned state space s) all a (omega (arith, none, sum_by-cons (weight a) s all)) ∙ came_else state space s a (not_here a s (holds a s) refl first)

abbrev Shown : (HobStretch → SpaceState) → MemorySpace → HobStretch → Type 0
Shown state end s = (a : ℕ) → holds a s ≡ true → state_at end a ≡ state s

told : (state : HobStretch → SpaceState) (space : MemorySpace) (all : List HobStretch) → ((a : ℕ) → sum_by (weight a) all ≤ 1)
    → AllByRecursion (Shown state (all_came state space all)) all
told state space [] once = tt
told state space (s ∷ all) once = (
  (λ a here.
      let one : weight a s ≡ 1 = weight_at a s true here in
      untold state (turned state space s) all a (omega (arith, once a, one, sum_by-cons (weight a) s all)) ∙ came_here state space s a here),
  told state (turned state space s) all (λ a. omega (arith, once a, sum_by-cons (weight a) s all)),
)

here_or : (state : HobStretch → SpaceState) (x y : MemorySpace) (s : HobStretch) (all : List HobStretch) (a : ℕ) (b : Bool) → holds a s ≡ b
    → AllByRecursion (Shown state x) (s ∷ all) → AllByRecursion (Shown state y) (s ∷ all)
    → (sum_by (weight a) all ≡ 0) ⊎ (state_at x a ≡ state_at y a) → (sum_by (weight a) (s ∷ all) ≡ 0) ⊎ (state_at x a ≡ state_at y a)
here_or state x y s all a true is one other rest = inr (one.0 a is ∙ sym (other.0 a is))
here_or state x y s all a false is one other (inr same) = inr same
here_or state x y s all a false is one other (inl none) = inl (omega (arith, sum_by-cons (weight a) s all, weight_at a s false is, none))

none_or_same : (state : HobStretch → SpaceState) (x y : MemorySpace) (all : List HobStretch) (a : ℕ) → AllByRecursion (Shown state x) all
    → AllByRecursion (Shown state y) all → (sum_by (weight a) all ≡ 0) ⊎ (state_at x a ≡ state_at y a)
none_or_same state x y [] a one other = inl refl
none_or_same state x y (s ∷ all) a one other = here_or state x y s all a (holds a s) refl one other (none_or_same state x y all a one.1 other.1)

same_limit : (state : HobStretch → SpaceState) (space : MemorySpace) (all : List HobStretch) → (all_came state space all).limit ≡ space.limit
same_limit state space [] = refl
same_limit state space (s ∷ all) = same_limit state (turned state space s) all

-- what holds of stretches in another order, and of the space that they leave
pub record InOrder (May : MemorySpace → HobStretch → Type 0) (next : MemorySpace → HobStretch → MemorySpace) (space : MemorySpace) (all : List HobStretch) (end now : MemorySpace) : Type 0 where
  pub follow : Follow May next space all now
  pub states : (a : ℕ) → state_at end a ≡ state_at now a
  pub limit : end.limit ≡ now.limit

any_order : (c : Coming) (space end : MemorySpace) (all sorted : List HobStretch) → IsPermutation all sorted
    → Follow (Comes c) (turned c.state) space sorted end
    → InOrder (May c) (turned c.state) space all end (all_came c.state space all)
any_order c space end all sorted moved follow =
    let back = IsPermutation-sym all sorted moved in
    let once_sorted = once_of c space sorted end follow in
    let each = recursion_from_All (Comes c space) all (All-permutation (Comes c space) sorted all back (All-from_recursion (Comes c space) sorted (each_of c space sorted end follow))) in
    let once : (a : ℕ) → sum_by (weight a) all ≤ 1 = λ a. omega (arith, sum_by-IsPermutation (weight a) all sorted moved, once_sorted a) in
    let is = follow_end c space sorted end follow in
    let ends = all_came c.state space sorted in
    let shown = recursion_from_All (Shown c.state ends) all (All-permutation (Shown c.state ends) sorted all back (All-from_recursion (Shown c.state ends) sorted (told c.state space sorted once_sorted))) in
    let same : (a : ℕ) → state_at ends a ≡ state_at (all_came c.state space all) a = λ a. elim (none_or_same c.state ends (all_came c.state space all) all a shown (told c.state space all once)) [
      | inl none ↦ untold c.state space sorted a (sum_by-IsPermutation (weight a) all sorted moved ∙ none) ∙ sym (untold c.state space all a none)
      | inr are ↦ are
    ] in
    record {
      follow = follow_all c space all each once;
      states = λ a. ap (λ (e : MemorySpace). state_at e a) is ∙ same a;
      limit = ap (λ (e : MemorySpace). e.limit) is ∙ same_limit c.state space sorted ∙ sym (same_limit c.state space all);
    }

-- how resources come
abbrev resource_coming : Coming
resource_coming = record { before = IsAbsent; used = λ s. s.kind ≢ NonExistent; state = λ s. free_of s.kind; clash = λ s used absent. used absent }

-- how allocations do
abbrev allocation_coming : Coming
allocation_coming = record {
  before = IsFreeOf System;
  used = λ s. Unit {0};
  state = λ s. allocated_of System;
  clash = λ s used free. let no : true ≡ false = ap (λ (state : SpaceState). state.allocated) free in absurd (cc);
}

abbrev pub came_all : MemorySpace → List HobStretch → MemorySpace
came_all = all_came (λ s. free_of s.kind)

abbrev pub taken_all : MemorySpace → List HobStretch → MemorySpace
taken_all = all_came (λ s. allocated_of System)

pub resources_in_order : (space end : MemorySpace) (all sorted : List HobStretch) → IsPermutation all sorted
    → Follow ComesOfKind came space sorted end
    → InOrder MayCome came space all end (came_all space all)
resources_in_order space end all sorted moved follow = any_order resource_coming space end all sorted moved follow

with_all : (space : MemorySpace) (all : List HobStretch) (end : MemorySpace) → Follow MayBeTaken taken space all end
    → Follow (Comes allocation_coming) (turned (λ s. allocated_of System)) space all end
with_all space [] end follow = follow
with_all space (s ∷ all) end follow = ((follow.0, tt), with_all (taken space s) all end follow.1)

pub allocations_in_order : (space end : MemorySpace) (all sorted : List HobStretch) → IsPermutation all sorted
    → Follow MayBeTaken taken space sorted end
    → InOrder MayBeTaken taken space all end (taken_all space all)
allocations_in_order space end all sorted moved follow = any_order allocation_coming space end all sorted moved (with_all space sorted end follow)

cover_same : (s t : ℕ → SpaceState) → ((a : ℕ) → s a ≡ t a) → (from : ℕ) (ranges : List GcdRange) (to : ℕ) → Cover s from ranges to
    → Cover t from ranges to
cover_same s t same from [] to cover = cover
cover_same s t same from (range ∷ ranges) to cover =
    (cover.0, cover.1, (λ a low high. sym (same a) ∙ cover.2 a low high), cover_same s t same (from + range.len) ranges to cover.3)

pub shows_same : (map : MapState) (x y : MemorySpace) → ((a : ℕ) → state_at x a ≡ state_at y a) → x.limit ≡ y.limit → Shows map x → Shows map y
shows_same map x y same limit shows = record {
  limit = shows.limit ∙ limit;
  some = subst (λ n. 0 < n) limit shows.some;
  most = subst (λ n. n ≤ 2 ^ 52) limit shows.most;
  ranges = record {
    covered = subst (λ n. Cover (state_at y) 0 map.ranges n) limit (cover_same (state_at x) (state_at y) same 0 map.ranges x.limit shows.ranges.covered);
    merged = shows.ranges.merged;
  };
}
