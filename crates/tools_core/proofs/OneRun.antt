-- A command on the memory space has one answer and leaves one space, so commands have one run.
use Rattle.std.proofs.Common.{◌≡◌, ◌≢◌, ◌⊎◌, inl, inr, ℕ, zero, suc, ◌+◌, ◌^◌, ◌<◌, ◌≤◌, List, [], ◌∷◌, map, refl, sym, ap, ◌∙◌, subst, arith, true≢false}
use Rattle.gcd_map.specs.{declared.state.GcdKind.GcdKind, declared.map.TheConstants.MOST_ALIGN, declared.command.Command.Command}
use Rattle.gcd_map.specs.declared.word.GcdWord.TheVariants.{InvalidParameter, Unsupported, AccessDenied, NotFound, Memory}
use Rattle.gcd_map.specs.declared.command.Command.TheVariants.{Add, Allocate, Top, Free, Remove}
use Rattle.gcd_map.specs.{declared.perform.Answer.Answer, Run.CommandRow, Run.IsRun, Stretch.AllIn, Stretch.SomeIn}
use Rattle.gcd_map.specs.declared.perform.Answer.TheVariants.{Done, At, Refused}
use Rattle.gcd_map.specs.AddressSpace.{MemorySpace, state_at, with_change, add_change, allocate_change, free_change, remove_change}
use Rattle.gcd_map.specs.Commands.{IsAbsent, IsPresent, IsAllocated, IsFree, IsFreeOf, IsNotFreeOf, AreValid, AreInvalid, HasRoom}

-- of things in order, the first that stops: those before it are passed
abbrev IsFirst : (ℕ → Type 0) → (ℕ → Type 0) → ℕ → Type 0
IsFirst Pass Stop zero = Stop zero
IsFirst Pass Stop (suc n) = Pass zero × IsFirst (λ i. Pass (suc i)) (λ i. Stop (suc i)) n

first_at : (Pass Stop : ℕ → Type 0) (n : ℕ) → ((i : ℕ) → i < n → Pass i) → Stop n → IsFirst Pass Stop n
first_at Pass Stop zero all stop = stop
first_at Pass Stop (suc n) all stop = (all zero (omega arith), first_at (λ i. Pass (suc i)) (λ i. Stop (suc i)) n (λ i less. all (suc i) (omega (arith, less))) stop)

one_first : (Pass Stop : ℕ → Type 0) → ((i : ℕ) → Pass i → Stop i → ⊥) → (m n : ℕ) → IsFirst Pass Stop m → IsFirst Pass Stop n → m ≡ n
one_first Pass Stop apart zero zero p q = refl
one_first Pass Stop apart zero (suc n) p q = absurd (apart zero q.0 p)
one_first Pass Stop apart (suc m) zero p q = absurd (apart zero p.0 q)
one_first Pass Stop apart (suc m) (suc n) p q = ap suc (one_first (λ i. Pass (suc i)) (λ i. Stop (suc i)) (λ i. apart (suc i)) m n p.1 q.1)

-- the order of the answers: the refusals, and what is done
abbrev place : Answer → ℕ
place (Refused InvalidParameter) = zero
place (Refused Unsupported) = suc zero
place (Refused NotFound) = suc (suc zero)
place (Refused AccessDenied) = suc (suc (suc zero))
place (Refused Memory) = suc (suc (suc (suc zero)))
place Done = suc (suc (suc (suc (suc zero))))
place (At base) = suc (suc (suc (suc (suc (suc base)))))

abbrev answer_at : ℕ → Answer
answer_at zero = Refused InvalidParameter
answer_at (suc zero) = Refused Unsupported
answer_at (suc (suc zero)) = Refused NotFound
answer_at (suc (suc (suc zero))) = Refused AccessDenied
answer_at (suc (suc (suc (suc zero)))) = Refused Memory
answer_at (suc (suc (suc (suc (suc zero))))) = Done
answer_at (suc (suc (suc (suc (suc (suc base)))))) = At base

placed : (answer : Answer) → answer_at (place answer) ≡ answer
placed (Refused InvalidParameter) = refl
placed answer = refl

-- what holds in the order of the answers
abbrev in_order : Type 0 → Type 0 → Type 0 → Type 0 → (ℕ → Type 0) → ℕ → Type 0
in_order A B C D Rest zero = A
in_order A B C D Rest (suc zero) = B
in_order A B C D Rest (suc (suc zero)) = C
in_order A B C D Rest (suc (suc (suc zero))) = D
in_order A B C D Rest (suc (suc (suc (suc n)))) = Rest n

-- a command that is not refused is done, or done at the greatest base
abbrev IsUndone : ℕ → Type 0
IsUndone zero = Unit {0}
IsUndone (suc n) = ⊥

abbrev IsDone : ℕ → Type 0
IsDone zero = ⊥
IsDone (suc n) = Unit {0}

done_apart : (n : ℕ) → IsUndone n → IsDone n → ⊥
done_apart zero p q = q
done_apart (suc n) p q = p

abbrev IsHighest : (ℕ → Type 0) → ℕ → Type 0
IsHighest Room base = Room base × ((other : ℕ) → Room other → other ≤ base)

abbrev IsNotAt : (ℕ → Type 0) → ℕ → Type 0
IsNotAt Room zero = Unit {0}
IsNotAt Room (suc zero) = Unit {0}
IsNotAt Room (suc (suc base)) = IsHighest Room base → ⊥

abbrev IsAt : (ℕ → Type 0) → ℕ → Type 0
IsAt Room zero = ⊥
IsAt Room (suc zero) = ⊥
IsAt Room (suc (suc base)) = IsHighest Room base

at_apart : (Room : ℕ → Type 0) (n : ℕ) → IsNotAt Room n → IsAt Room n → ⊥
at_apart Room zero p q = q
at_apart Room (suc zero) p q = q
at_apart Room (suc (suc base)) p q = p q

lower : (Room : ℕ → Type 0) (base other : ℕ) → IsHighest Room base → other < base → IsHighest Room other → ⊥
lower Room base other p less q = let high = q.1 base p.0 in omega (arith, less, high)

-- what an answer behind this one needs, and what this one needs
abbrev Passes : Command → MemorySpace → ℕ → Type 0
Passes (Add kind base len) old = in_order (AreValid kind len) (base + len ≤ old.limit) (Unit {0}) (AllIn (state_at old) base (base + len) IsAbsent) IsUndone
Passes (Allocate kind base len) old = in_order (AreValid kind len) (Unit {0}) ((base + len ≤ old.limit) × AllIn (state_at old) base (base + len) (IsFreeOf kind)) (Unit {0}) IsUndone
Passes (Top kind align len) old = in_order (AreValid kind len × (align ≤ MOST_ALIGN)) (Unit {0}) ((base : ℕ) × HasRoom old kind (2 ^ align) len base) (Unit {0}) (IsNotAt (HasRoom old kind (2 ^ align) len))
Passes (Free base len) old = in_order (0 < len) (base + len ≤ old.limit) (AllIn (state_at old) base (base + len) IsAllocated) (Unit {0}) IsUndone
Passes (Remove base len) old = in_order (0 < len) (base + len ≤ old.limit) (AllIn (state_at old) base (base + len) IsPresent) (AllIn (state_at old) base (base + len) IsFree) IsUndone

abbrev Stops : Command → MemorySpace → ℕ → Type 0
Stops (Add kind base len) old = in_order (AreInvalid kind len) (old.limit < base + len) ⊥ (SomeIn (state_at old) base (base + len) IsPresent) IsDone
Stops (Allocate kind base len) old = in_order (AreInvalid kind len) ⊥ ((old.limit < base + len) ⊎ SomeIn (state_at old) base (base + len) (IsNotFreeOf kind)) ⊥ IsDone
Stops (Top kind align len) old = in_order (AreInvalid kind len ⊎ (MOST_ALIGN < align)) ⊥ ((base : ℕ) → HasRoom old kind (2 ^ align) len base → ⊥) ⊥ (IsAt (HasRoom old kind (2 ^ align) len))
Stops (Free base len) old = in_order (len ≡ 0) (old.limit < base + len) (SomeIn (state_at old) base (base + len) IsFree) ⊥ IsDone
Stops (Remove base len) old = in_order (len ≡ 0) (old.limit < base + len) (SomeIn (state_at old) base (base + len) IsAbsent) (SomeIn (state_at old) base (base + len) IsAllocated) IsDone

invalid : (kind : GcdKind) (len : ℕ) → AreValid kind len → AreInvalid kind len → ⊥
invalid kind len p q = elim q [ inl none ↦ let some = p.0 in omega (arith, some, none) | inr e ↦ p.1 e ]

apart : (command : Command) (old : MemorySpace) (i : ℕ) → Passes command old i → Stops command old i → ⊥
apart (Add kind base len) old zero p q = invalid kind len p q
apart (Add kind base len) old (suc zero) p q = omega (arith, p, q)
apart (Add kind base len) old (suc (suc zero)) p q = q
apart (Add kind base len) old (suc (suc (suc zero))) p q = q.3 (p q.0 q.1 q.2)
apart (Add kind base len) old (suc (suc (suc (suc n)))) p q = done_apart n p q
apart (Allocate kind base len) old zero p q = invalid kind len p q
apart (Allocate kind base len) old (suc zero) p q = q
apart (Allocate kind base len) old (suc (suc zero)) p q = elim q [ inl over ↦ let within = p.0 in omega (arith, within, over) | inr some ↦ some.3 (p.1 some.0 some.1 some.2) ]
apart (Allocate kind base len) old (suc (suc (suc zero))) p q = q
apart (Allocate kind base len) old (suc (suc (suc (suc n)))) p q = done_apart n p q
apart (Top kind align len) old zero p q = elim q [ inl none ↦ invalid kind len p.0 none | inr over ↦ let within = p.1 in omega (arith, within, over) ]
apart (Top kind align len) old (suc zero) p q = q
apart (Top kind align len) old (suc (suc zero)) p q = q p.0 p.1
apart (Top kind align len) old (suc (suc (suc zero))) p q = q
apart (Top kind align len) old (suc (suc (suc (suc n)))) p q = at_apart (HasRoom old kind (2 ^ align) len) n p q
apart (Free base len) old zero p q = omega (arith, p, q)
apart (Free base len) old (suc zero) p q = omega (arith, p, q)
apart (Free base len) old (suc (suc zero)) p q = true≢false (sym (p q.0 q.1 q.2) ∙ q.3)
apart (Free base len) old (suc (suc (suc zero))) p q = q
apart (Free base len) old (suc (suc (suc (suc n)))) p q = done_apart n p q
apart (Remove base len) old zero p q = omega (arith, p, q)
apart (Remove base len) old (suc zero) p q = omega (arith, p, q)
apart (Remove base len) old (suc (suc zero)) p q = p q.0 q.1 q.2 q.3
apart (Remove base len) old (suc (suc (suc zero))) p q = true≢false (sym q.3 ∙ p q.0 q.1 q.2)
apart (Remove base len) old (suc (suc (suc (suc n)))) p q = done_apart n p q

-- the space behind an answer
abbrev after : Command → MemorySpace → Answer → MemorySpace
after (Add kind base len) old Done = with_change old (add_change kind base len)
after (Allocate kind base len) old Done = with_change old (allocate_change kind base len)
after (Top kind align len) old (At base) = with_change old (allocate_change kind base len)
after (Free base len) old Done = with_change old (free_change base len)
after (Remove base len) old Done = with_change old (remove_change base len)
after command old answer = old

-- an answer is the first in their order, and leaves that space
stands : (command : Command) (old new : MemorySpace) (answer : Answer) → answer ≢ Refused Memory → CommandRow command old answer new
    → IsFirst (Passes command old) (Stops command old) (place answer) × (new ≡ after command old answer)
stands (Add kind base len) old new (Refused InvalidParameter) real row = (row.0, row.1)
stands (Add kind base len) old new (Refused Unsupported) real row = ((row.0, row.1), row.2)
stands (Add kind base len) old new (Refused AccessDenied) real row = ((row.0, (row.1, (tt, row.2))), row.3)
stands (Add kind base len) old new Done real row = ((row.0, (row.1, (tt, (row.2, (tt, tt))))), row.3)
stands (Add kind base len) old new (Refused Memory) real row = absurd (real refl)
stands (Add kind base len) old new answer real row = absurd row
stands (Allocate kind base len) old new (Refused InvalidParameter) real row = (row.0, row.1)
stands (Allocate kind base len) old new (Refused NotFound) real row = ((row.0, (tt, row.1)), row.2)
stands (Allocate kind base len) old new Done real row = ((row.0, (tt, ((row.1, row.2), (tt, (tt, tt))))), row.3)
stands (Allocate kind base len) old new (Refused Memory) real row = absurd (real refl)
stands (Allocate kind base len) old new answer real row = absurd row
stands (Top kind align len) old new (Refused InvalidParameter) real row = (row.0, row.1)
stands (Top kind align len) old new (Refused NotFound) real row = (((row.0, row.1), (tt, row.2)), row.3)
stands (Top kind align len) old new (At base) real row =
    let Room : ℕ → Type 0 = HasRoom old kind (2 ^ align) len in
    let highest : IsHighest Room base = (row.2, row.3) in
    let there = first_at (λ i. IsHighest Room i → ⊥) (IsHighest Room) base (λ i less. lower Room base i highest less) highest in
    (((row.0, row.1), (tt, ((base, row.2), (tt, (tt, (tt, there)))))), row.4)
stands (Top kind align len) old new (Refused Memory) real row = absurd (real refl)
stands (Top kind align len) old new answer real row = absurd row
stands (Free base len) old new (Refused InvalidParameter) real row = (row.0, row.1)
stands (Free base len) old new (Refused Unsupported) real row = ((row.0, row.1), row.2)
stands (Free base len) old new (Refused NotFound) real row = ((row.0, (row.1, row.2)), row.3)
stands (Free base len) old new Done real row = ((row.0, (row.1, (row.2, (tt, (tt, tt))))), row.3)
stands (Free base len) old new (Refused Memory) real row = absurd (real refl)
stands (Free base len) old new answer real row = absurd row
stands (Remove base len) old new (Refused InvalidParameter) real row = (row.0, row.1)
stands (Remove base len) old new (Refused Unsupported) real row = ((row.0, row.1), row.2)
stands (Remove base len) old new (Refused NotFound) real row = ((row.0, (row.1, row.2)), row.3)
stands (Remove base len) old new (Refused AccessDenied) real row = ((row.0, (row.1, (row.2, row.3))), row.4)
stands (Remove base len) old new Done real row = ((row.0, (row.1, (row.2, (row.3, (tt, tt))))), row.4)
stands (Remove base len) old new (Refused Memory) real row = absurd (real refl)
stands (Remove base len) old new answer real row = absurd row

one_answer : (command : Command) (old m n : MemorySpace) (a b : Answer) → a ≢ Refused Memory → b ≢ Refused Memory → CommandRow command old a m → CommandRow command old b n → (a ≡ b) × (m ≡ n)
one_answer command old m n a b real other p q =
    let one = stands command old m a real p in
    let two = stands command old n b other q in
    let places : place a ≡ place b = one_first (Passes command old) (Stops command old) (apart command old) (place a) (place b) one.0 two.0 in
    let same : a ≡ b = sym (placed a) ∙ ap answer_at places ∙ placed b in
    (same, one.1 ∙ ap (after command old) same ∙ sym two.1)

-- runs of the same commands are one
pub one_run : (xs ys : List (Command × Answer)) (old m n : MemorySpace) → map (λ (step : Command × Answer). step.0) xs ≡ map (λ (step : Command × Answer). step.0) ys → IsRun old xs m → IsRun old ys n → (xs ≡ ys) × (m ≡ n)
one_run [] [] old m n same p q = (refl, p ∙ sym q)
one_run [] (y ∷ ys) old m n same p q = absurd (cc)
one_run (x ∷ xs) [] old m n same p q = absurd (cc)
one_run (x ∷ xs) (y ∷ ys) old m n same p q =
    let command : x.0 ≡ y.0 = cc in
    let rest : map (λ (step : Command × Answer). step.0) xs ≡ map (λ (step : Command × Answer). step.0) ys = cc in
    let row : CommandRow x.0 old y.1 q.1.0 = subst (λ (c : Command). CommandRow c old y.1 q.1.0) (sym command) q.1.1 in
    let one = one_answer x.0 old p.1.0 q.1.0 x.1 y.1 p.0 q.0 p.1.1 row in
    let behind : IsRun p.1.0 ys n = subst (λ (s : MemorySpace). IsRun s ys n) (sym one.1) q.1.2 in
    let more = one_run xs ys p.1.0 m n rest p.1.2 behind in
    let with_command : Command → Command × Answer = λ c. (c, x.1) in
    let with_answer : Answer → Command × Answer = λ a. (y.0, a) in
    let step : x ≡ y = ap with_command command ∙ ap with_answer one.0 in
    (ap (λ s. s ∷ xs) step ∙ ap (λ steps. y ∷ steps) more.0, more.1)
