-- Two lists of opcodes that stand at the front of the same bytes are the same as far as both go, so bytes have one outcome.
use Rattle.std.proofs.Common.{◌≡◌, ℕ, ◌≤◌, List, [], ◌∷◌, ◌++◌, length, Option, Some, None, refl, sym, ap, subst, ◌∙◌, append_assoc, arith, inl, inr, ⊎_elim, option_and_then, ◌⊎◌, append-nil, length-append}
use Rattle.std.specs.List.{AllByRecursion}
use Rattle.std.proofs.lemmas.Option.{same_Some}
use Rattle.pi_base.specs.{declared.phase.Phase.Phase, Lists.Begins}
use Rattle.depex_code.specs.{declared.instruction.Instruction.Instruction, declared.depex.Depex.Depex}
use Rattle.depex_code.specs.{Instruction.instruction_bytes, Instruction.IsWhole, Reading.instruction_at}
use Rattle.depex_code.specs.Expression.{instructions, IsOfPhase, GoesOn, bytes_of, Reads, IsMalformed}
use Rattle.depex_code.proofs.{Instructions.instruction_again, TreeWalk.bytes_of-append}
use Rattle.depex_code.proofs.Machine.{State, start, done, runs, runs-append, runs-instructions}

-- one of two lists is the front of the other
abbrev Compared : List Instruction → List Instruction → Type 0
Compared xs ys = ((more : List Instruction) × (ys ≡ xs ++ more)) ⊎ ((next : Instruction) × (more : List Instruction) × (xs ≡ ys ++ next ∷ more))

compared_under : (x y : Instruction) (xs ys : List Instruction) → x ≡ y → Compared xs ys → Compared (x ∷ xs) (y ∷ ys)
compared_under x y xs ys same (inl (more, e)) = inl (more, ap (λ t. y ∷ t) e ∙ ap (λ i. i ∷ (xs ++ more)) (sym same))
compared_under x y xs ys same (inr (next, more, e)) = inr (next, more, ap (λ t. x ∷ t) e ∙ ap (λ i. i ∷ (ys ++ next ∷ more)) same)

compare : (xs ys : List Instruction) (a b : List ℕ) → AllByRecursion IsWhole xs → AllByRecursion IsWhole ys → bytes_of xs ++ a ≡ bytes_of ys ++ b → Compared xs ys
compare [] ys a b p q e = inl (ys, refl)
compare (x ∷ xs) [] a b p q e = inr (x, xs, refl)
compare (x ∷ xs) (y ∷ ys) a b p q e =
    let both : instruction_bytes x ++ (bytes_of xs ++ a) ≡ instruction_bytes y ++ (bytes_of ys ++ b) = sym (append_assoc (instruction_bytes x) (bytes_of xs) a) ∙ e ∙ append_assoc (instruction_bytes y) (bytes_of ys) b in
    let read : ◌≡◌ {A = Option (Instruction × List ℕ)} (Some (x, bytes_of xs ++ a)) (Some (y, bytes_of ys ++ b)) = sym (instruction_again x (bytes_of xs ++ a) p.0) ∙ ap instruction_at both ∙ instruction_again y (bytes_of ys ++ b) q.0 in
    let same = same_Some (x, bytes_of xs ++ a) (y, bytes_of ys ++ b) read in
    compared_under x y xs ys (ap (λ s. s.0) same) (compare xs ys a b p.1 q.1 (ap (λ s. s.1) same))

-- nothing goes on behind an expression
ends_there : (phase : Phase) (e f : Depex) (next : Instruction) (more : List Instruction) → IsOfPhase phase e → IsOfPhase phase f → instructions f ≡ instructions e ++ next ∷ more → ⊥
ends_there phase e f next more p q is =
    let split : option_and_then (λ s. runs phase s (next ∷ more)) (runs phase start (instructions e)) ≡ Some (done f) =
    sym (runs-append phase start (instructions e) (next ∷ more)) ∙ ap (runs phase start) (sym is) ∙ runs-instructions phase f q in
    let never : ◌≡◌ {A = Option State} None (Some (done f)) = sym (ap (option_and_then (λ s. runs phase s (next ∷ more))) (runs-instructions phase e p)) ∙ split in
    absurd cc

-- expressions with the same opcodes are one
same_instructions : (phase : Phase) (e f : Depex) → IsOfPhase phase e → IsOfPhase phase f → instructions f ≡ instructions e → e ≡ f
same_instructions phase e f p q is =
    let ends : ◌≡◌ {A = Option State} (Some (done e)) (Some (done f)) = sym (runs-instructions phase e p) ∙ ap (runs phase start) (sym is) ∙ runs-instructions phase f q in
    let same : done e ≡ done f = same_Some (done e) (done f) ends in
    cc

pub one_read : (phase : Phase) (bytes : List ℕ) (e f : Depex) → Reads phase bytes e → Reads phase bytes f → e ≡ f
one_read phase bytes e f p q =
    elim (compare (instructions e) (instructions f) p.here.0 q.here.0 p.guids q.guids (sym p.here.1 ∙ q.here.1)) [
      | inl (more, is) ↦ longer more is
      | inr (next, more, is) ↦ absurd (ends_there phase f e next more q.suits p.suits is)
    ]
  where
    longer : (more : List Instruction) → instructions f ≡ instructions e ++ more → e ≡ f
    longer [] is = same_instructions phase e f p.suits q.suits (is ∙ append-nil (instructions e))
    longer (next ∷ more) is = absurd (ends_there phase e f next more p.suits q.suits is)

-- the opcodes of a front are whole
front_whole : (front behind all : List Instruction) → all ≡ front ++ behind → AllByRecursion IsWhole all → AllByRecursion IsWhole front
front_whole front behind all is whole = of front (rw is at whole)
  where
    of : (front : List Instruction) → AllByRecursion IsWhole (front ++ behind) → AllByRecursion IsWhole front
    of [] all = tt
    of (x ∷ front) all = (all.0, of front all.1)

front_of : (phase : Phase) (bytes : List ℕ) (at : ℕ) (m : IsMalformed phase bytes at) → AllByRecursion IsWhole m.front
front_of phase bytes at m = let goes = m.more.2 in front_whole m.front (m.more.0 ∷ m.more.1) (instructions goes.0) goes.3 goes.2

-- what goes on behind the front of a malformed expression does not stand there
stuck : (phase : Phase) (bytes : List ℕ) (at : ℕ) (m : IsMalformed phase bytes at) (e : Depex) (next : Instruction) (more more' : List Instruction) → IsOfPhase phase e → AllByRecursion IsWhole (instructions e)
    → instructions e ≡ (m.front ++ next ∷ more) ++ more' → Begins bytes (bytes_of (m.front ++ next ∷ more)) → length (m.front ++ next ∷ more) ≤ 1024 → ⊥
stuck phase bytes at m e next more more' suits whole is begins few =
    let goes : GoesOn phase m.front (next ∷ (more ++ more')) = (e, suits, whole, is ∙ append_assoc m.front (next ∷ more) more') in
    let there : bytes ≡ bytes_of (m.front ++ next ∷ []) ++ (bytes_of more ++ begins.0) =
    begins.1 ∙ ap (λ t. t ++ begins.0) (ap bytes_of (sym (append_assoc m.front (next ∷ []) more)) ∙ bytes_of-append (m.front ++ next ∷ []) more) ∙ append_assoc (bytes_of (m.front ++ next ∷ [])) (bytes_of more) begins.0 in
    ⊎_elim (λ (stops : (n : Instruction) (behind : List Instruction) → GoesOn phase m.front (n ∷ behind) → Begins bytes (bytes_of (m.front ++ n ∷ [])) → ⊥). stops next (more ++ more') goes (bytes_of more ++ begins.0, there))
    (λ (full : length m.front ≡ 1024). absurd (omega (arith, full, few, length-append m.front (next ∷ more)))) m.stops

pub read_or_malformed : (phase : Phase) (bytes : List ℕ) (e : Depex) (at : ℕ) → Reads phase bytes e → IsMalformed phase bytes at → ⊥
read_or_malformed phase bytes e at p m =
    let goes = m.more.2 in
    elim (compare m.front (instructions e) m.here.0 p.here.0 (front_of phase bytes at m) p.guids (sym m.here.1 ∙ p.here.1)) [
      | inl (more, is) ↦ longer more is
      | inr (next, more, is) ↦ ends_there phase e goes.0 next (more ++ m.more.0 ∷ m.more.1) p.suits goes.1
          (goes.3 ∙ ap (λ t. t ++ m.more.0 ∷ m.more.1) is ∙ append_assoc (instructions e) (next ∷ more) (m.more.0 ∷ m.more.1))
    ]
  where
    longer : (more : List Instruction) → instructions e ≡ m.front ++ more → ⊥
    longer [] is = let goes = m.more.2 in ends_there phase e goes.0 m.more.0 m.more.1 p.suits goes.1 (goes.3 ∙ ap (λ t. t ++ m.more.0 ∷ m.more.1) (sym (is ∙ append-nil m.front)))
    longer (next ∷ more) is = stuck phase bytes at m e next more [] p.suits p.guids (is ∙ sym (append-nil (m.front ++ next ∷ more))) (p.here.0, p.here.1 ∙ ap (λ t. bytes_of t ++ p.here.0) is) (subst (λ t. length t ≤ 1024) is p.few)

-- the front of one is no longer than that of the other
no_longer : (phase : Phase) (bytes : List ℕ) (at to : ℕ) (m : IsMalformed phase bytes at) (n : IsMalformed phase bytes to) (more : List Instruction) → n.front ≡ m.front ++ more → m.front ≡ n.front
no_longer phase bytes at to m n [] is = sym (is ∙ append-nil m.front)
no_longer phase bytes at to m n (next ∷ more) is =
    let goes = n.more.2 in
    absurd (stuck phase bytes at m goes.0 next more (n.more.0 ∷ n.more.1) goes.1 goes.2 (goes.3 ∙ ap (λ t. t ++ n.more.0 ∷ n.more.1) is)
    (n.here.0, n.here.1 ∙ ap (λ t. bytes_of t ++ n.here.0) is) (subst (λ t. length t ≤ 1024) is n.few))

pub one_malformed : (phase : Phase) (bytes : List ℕ) (at to : ℕ) → IsMalformed phase bytes at → IsMalformed phase bytes to → at ≡ to
one_malformed phase bytes at to m n =
    m.place ∙ ap (λ t. length (bytes_of t)) fronts ∙ sym n.place
  where
    fronts : m.front ≡ n.front
    fronts = elim (compare m.front n.front m.here.0 n.here.0 (front_of phase bytes at m) (front_of phase bytes to n) (sym m.here.1 ∙ n.here.1)) [
      | inl (more, is) ↦ no_longer phase bytes at to m n more is
      | inr (next, more, is) ↦ sym (no_longer phase bytes to at n m (next ∷ more) is)
    ]
