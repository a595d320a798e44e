-- What stands at the front of a text.
use Rattle.std.proofs.Common.{◌≡◌, ℕ, ◌+◌, Bool, true, false, List, ◌++◌, length, take, drop, refl, sym, ap, ◌∙◌, arith, Option, Some, None, option_map, bytes_eq, if◌then◌else◌, MatchOption, Bor, take_at, drop_at, take-append-drop, length-append}
use Rattle.std.proofs.lemmas.Option.{same_Some}
use Rattle.line_words.proofs.Comparisons.{same}
use Rattle.asm_text.specs.Front.{behind}

-- a test that was passed
pub passed : {A : Type 0} (test : Bool) (x y : A) → (if test then Some x else None) ≡ Some y → (test ≡ true) × (x ≡ y)
passed true x y e = (refl, same_Some x y e)
passed false x y e = absurd cc

-- a value that is never there
pub none_of : {A : Type 0} (o : Option A) → ((x : A) → o ≡ Some x → ⊥) → o ≡ None
none_of None never = refl
none_of (Some x) never = absurd (never x refl)

-- a comparison of bytes with themselves
pub itself : (a : List ℕ) → bytes_eq a a ≡ true
itself a = (same a a).1 refl

-- what follows a front
pub behind_is : (front text rest : List ℕ) → behind front text ≡ Some rest → text ≡ front ++ rest
behind_is front text rest e =
    let p = passed (bytes_eq (take (length front) text) front) (drop (length front) text) rest e in
    sym (take-append-drop (length front) text) ∙ ap (λ there. there ++ drop (length front) text) ((same (take (length front) text) front).0 p.0) ∙ ap (λ rest. front ++ rest) p.1

pub behind_there : (front rest : List ℕ) → behind front (front ++ rest) ≡ Some rest
behind_there front rest = rw (take_at front rest (length front) refl, itself front, drop_at front rest (length front) refl) refl

none_by : (test : Bool) (x : List ℕ) → (test ≡ true → ⊥) → ◌≡◌ {A = Option (List ℕ)} (if test then Some x else None) None
none_by true x never = absurd (never refl)
none_by false x never = refl

pub behind_none : (front text : List ℕ) → ((rest : List ℕ) → text ≡ front ++ rest → ⊥) → behind front text ≡ None
behind_none front text never =
    none_by (bytes_eq (take (length front) text) front) (drop (length front) text)
    (λ here. never (drop (length front) text) (sym (take-append-drop (length front) text) ∙ ap (λ there. there ++ drop (length front) text) ((same (take (length front) text) front).0 here)))

pub not_behind : (front text rest : List ℕ) → behind front text ≡ None → text ≡ front ++ rest → ⊥
not_behind front text rest none is =
    let there : behind front text ≡ Some rest = ap (behind front) is ∙ behind_there front rest in
    let never : None ≡ Some rest = sym none ∙ there in
    cc

-- what stands behind a front is what reading gives
pub found_behind : (text front : List ℕ) (r : Option (Bor (List ℕ))) → MatchOption r ((rest : List ℕ) → text ≡ front ++ rest → ⊥) (λ rest. text ≡ front ++ rest.now)
    → option_map (λ rest. rest.now) r ≡ behind front text
found_behind text front (Some rest) is = sym (ap (behind front) is ∙ behind_there front rest.now)
found_behind text front None never = sym (behind_none front text never)

pub shorter_behind : (text front : List ℕ) (r : Option (Bor (List ℕ))) → MatchOption r ((rest : List ℕ) → text ≡ front ++ rest → ⊥) (λ rest. text ≡ front ++ rest.now)
    → MatchOption r (Unit {0}) (λ rest. length rest.now + length front ≡ length text)
shorter_behind text front (Some rest) is = omega (arith, ap length is, length-append front rest.now)
shorter_behind text front None never = tt
