-- The states of the modules where one registers or starts.
use Rattle.std.proofs.Common.{◌≡◌, ◌≢◌, ℕ, zero, suc, ◌<◌, ◌==◌, ◌||◌, Bool, true, false, cond, List, [], ◌∷◌, ◌++◌, length, refl, sym, ap, ◌∙◌, subst, arith, slice_set}
use Rattle.std.proofs.lemmas.Bool.Decides.{nat_tests}
use Rattle.mod_catalog.specs.Parts.{has_number}
use Rattle.boot_model.specs.{PeiMachine.PeiMachine, declared.peim_state.PeimState.PeimState}
use Rattle.boot_model.specs.declared.peim_state.PeimState.TheVariants.{NotDispatched, Dispatched, RegisteredForShadow, Done}
use Rattle.boot_model.specs.PeimState.{ArePeimStates, IsPeimState, has_registered, has_started, is_done, peim_state, state_at}

-- a state that was written, and another one
pub here : (states : List PeimState) (n : ℕ) (state : PeimState) → n < length states → state_at (slice_set states n state) n ≡ state
here [] n state h = absurd (omega (arith, h))
here (first ∷ rest) zero state h = refl
here (first ∷ rest) (suc n) state h = here rest n state (omega (arith, h))

pub elsewhere : (states : List PeimState) (n k : ℕ) (state : PeimState) → n ≢ k → state_at (slice_set states n state) k ≡ state_at states k
elsewhere [] n k state h = refl
elsewhere (first ∷ rest) zero zero state h = absurd (h refl)
elsewhere (first ∷ rest) zero (suc k) state h = refl
elsewhere (first ∷ rest) (suc n) zero state h = refl
elsewhere (first ∷ rest) (suc n) (suc k) state h = elsewhere rest n k state (λ e. h (ap suc e))

pub differ : (n k : ℕ) → (n == k) ≡ false → n ≢ k
differ n k t e = let yes : (n == k) ≡ true = grind (arith, nat_tests, e) in let no : true ≡ false = sym yes ∙ t in cc

pub same : (n k : ℕ) → (n == k) ≡ true → n ≡ k
same n k t = grind (arith, nat_tests, t)

-- a number is itself, and no other
pub same_number : (n : ℕ) → (n == n) ≡ true
same_number n = grind (arith, nat_tests)

other_number : (n k : ℕ) → n ≢ k → (n == k) ≡ false
other_number n k h = by_test (n == k) refl where
  by_test : (b : Bool) → (n == k) ≡ b → b ≡ false
  by_test true t = absurd (h (same n k t))
  by_test false t = refl

-- a number more in a list
or_assoc : (a b c : Bool) → (a || (b || c)) ≡ ((a || b) || c)
or_assoc true b c = refl
or_assoc false b c = refl

or_false : (b : Bool) → (b || false) ≡ b
or_false true = refl
or_false false = refl

or_true : (b : Bool) → (b || true) ≡ true
or_true true = refl
or_true false = refl

pub has_behind : (list : List ℕ) (n k : ℕ) → has_number (list ++ n ∷ []) k ≡ (has_number list k || (n == k))
has_behind [] n k = or_false (n == k)
has_behind (first ∷ rest) n k = ap (λ b. (first == k) || b) (has_behind rest n k) ∙ or_assoc (first == k) (has_number rest k) (n == k)

-- the lists of two machines have one module alike
pub record IsAlike (m later : PeiMachine) (k : ℕ) : Type 0 where
  pub started : has_number later.started k ≡ has_number m.started k
  pub registered : has_number later.shadows k ≡ has_number m.shadows k
  pub again : has_number later.again k ≡ has_number m.again k

pub alike_state : (m later : PeiMachine) (k : ℕ) (state : PeimState) → IsAlike m later k → IsPeimState m k state → IsPeimState later k state
alike_state m later k state alike is = record { started = alike.started ∙ is.started; registered = alike.registered ∙ is.registered; again = alike.again ∙ is.again }

pub same_states : (m later : PeiMachine) (states : List PeimState) → later.started ≡ m.started → later.shadows ≡ m.shadows → later.again ≡ m.again → ArePeimStates m states → ArePeimStates later states
same_states m later states e f g are k =
    alike_state m later k (state_at states k) (record { started = ap (λ xs. has_number xs k) e; registered = ap (λ xs. has_number xs k) f; again = ap (λ xs. has_number xs k) g }) (are k)

-- the states of a machine that differs from another in one module's
states_kept : (m later : PeiMachine) (states : List PeimState) (n : ℕ) (state : PeimState) → n < length states → ArePeimStates m states
    → ((k : ℕ) → n ≢ k → IsAlike m later k) → IsPeimState later n state → ArePeimStates later (slice_set states n state)
states_kept m later states n state inside are others own k = by_test (n == k) refl where
  by_test : (b : Bool) → (n == k) ≡ b → IsPeimState later k (state_at (slice_set states n state) k)
  by_test true t =
      let e : n ≡ k = same n k t in
      subst (λ x. IsPeimState later x (state_at (slice_set states n state) x)) e (subst (IsPeimState later n) (sym (here states n state inside)) own)
  by_test false t = subst (IsPeimState later k) (sym (elsewhere states n k state (differ n k t))) (alike_state m later k (state_at states k) (others k (differ n k t)) (are k))

-- a module that has started registers
pub registered_states : (m later : PeiMachine) (states : List PeimState) (n : ℕ) → n < length states → ArePeimStates m states → state_at states n ≡ Dispatched
    → later.started ≡ m.started → later.shadows ≡ m.shadows ++ n ∷ [] → later.again ≡ m.again → ArePeimStates later (slice_set states n RegisteredForShadow)
registered_states m later states n inside are state e f g =
    let own : IsPeimState m n Dispatched = subst (IsPeimState m n) state (are n) in
    states_kept m later states n RegisteredForShadow inside are
    (λ k h. record {
      started = ap (λ xs. has_number xs k) e;
      registered = ap (λ xs. has_number xs k) f ∙ has_behind m.shadows n k ∙ ap (λ b. has_number m.shadows k || b) (other_number n k h) ∙ or_false (has_number m.shadows k);
      again = ap (λ xs. has_number xs k) g;
    })
    (record {
      started = ap (λ xs. has_number xs n) e ∙ own.started;
      registered = ap (λ xs. has_number xs n) f ∙ has_behind m.shadows n n ∙ ap (λ b. has_number m.shadows n || b) (same_number n) ∙ or_true (has_number m.shadows n);
      again = ap (λ xs. has_number xs n) g ∙ own.again;
    })

-- a module starts
with_first : (n k : ℕ) (xs : List ℕ) → n ≢ k → has_number (n ∷ xs) k ≡ has_number xs k
with_first n k xs h = ap (λ b. b || has_number xs k) (other_number n k h)

with_itself : (n : ℕ) (xs : List ℕ) → has_number (n ∷ xs) n ≡ true
with_itself n xs = ap (λ b. b || has_number xs n) (same_number n)

pub first_states : (m later : PeiMachine) (states : List PeimState) (n : ℕ) → n < length states → ArePeimStates m states → state_at states n ≡ NotDispatched
    → later.started ≡ n ∷ m.started → later.shadows ≡ m.shadows → later.again ≡ m.again → ArePeimStates later (slice_set states n Dispatched)
first_states m later states n inside are state e f g =
    let own : IsPeimState m n NotDispatched = subst (IsPeimState m n) state (are n) in
    states_kept m later states n Dispatched inside are
    (λ k h. record { started = ap (λ xs. has_number xs k) e ∙ with_first n k m.started h; registered = ap (λ xs. has_number xs k) f; again = ap (λ xs. has_number xs k) g })
    (record { started = ap (λ xs. has_number xs n) e ∙ with_itself n m.started; registered = ap (λ xs. has_number xs n) f ∙ own.registered; again = ap (λ xs. has_number xs n) g ∙ own.again })

pub second_states : (m later : PeiMachine) (states : List PeimState) (n : ℕ) → n < length states → ArePeimStates m states → state_at states n ≡ RegisteredForShadow
    → later.started ≡ m.started → later.shadows ≡ m.shadows → later.again ≡ n ∷ m.again → ArePeimStates later (slice_set states n Done)
second_states m later states n inside are state e f g =
    let own : IsPeimState m n RegisteredForShadow = subst (IsPeimState m n) state (are n) in
    states_kept m later states n Done inside are
    (λ k h. record { started = ap (λ xs. has_number xs k) e; registered = ap (λ xs. has_number xs k) f; again = ap (λ xs. has_number xs k) g ∙ with_first n k m.again h })
    (record { started = ap (λ xs. has_number xs n) e ∙ own.started; registered = ap (λ xs. has_number xs n) f ∙ own.registered; again = ap (λ xs. has_number xs n) g ∙ with_itself n m.again })

-- the state of a module is the one that the lists have
closed : (state : PeimState) → cond (is_done state) Done (cond (has_registered state) RegisteredForShadow (cond (has_started state) Dispatched NotDispatched)) ≡ state
closed NotDispatched = refl
closed Dispatched = refl
closed RegisteredForShadow = refl
closed Done = refl

pub state_is : (m : PeiMachine) (n : ℕ) (state : PeimState) → IsPeimState m n state → peim_state m n ≡ state
state_is m n state is =
    ap (λ b. cond b Done (cond (has_number m.shadows n) RegisteredForShadow (cond (has_number m.started n) Dispatched NotDispatched))) is.again
    ∙ ap (λ b. cond (is_done state) Done (cond b RegisteredForShadow (cond (has_number m.started n) Dispatched NotDispatched))) is.registered
    ∙ ap (λ b. cond (is_done state) Done (cond (has_registered state) RegisteredForShadow (cond b Dispatched NotDispatched))) is.started
    ∙ closed state
