-- What was read of a content, where it is told.
use Rattle.std.proofs.Common.{arith, ◌≡◌, ◌≢◌, ◌<◌, ◌≤◌, ℕ, ◌+◌, List, ◌++◌, length, refl, sym, ap, ◌∙◌, subst, take, drop, append_assoc, Option, Some, None, Err, IfSome, take-append-drop, append-nil, length-append, length-take, take_all, option_map}
use Rattle.std.specs.{Io.StartsWith, Io.appended_bytes, declared.io.traits.Take.Take, Io.Take.take_inner, Io.Take.take_remaining}
use Rattle.std.specs.Io.KnownBytes.{Consumes, IsAtEnd}
use Rattle.boot_io.specs.declared.files.FileFault.{FileFault}
use Rattle.boot_io.specs.declared.files.FileFault.TheVariants.{Failed, TooLong, Memory}
use Rattle.boot_io.specs.Files.{IntoAfter, IsTold, BeginsTold}

-- some bytes, and then others
consumes_then : (old mid new : Option (List ℕ)) (a b : List ℕ) → Consumes old mid a → Consumes mid new b → Consumes old new (a ++ b)
consumes_then None mid new a b f g = tt
consumes_then (Some x) None new a b f g = absurd f
consumes_then (Some x) (Some y) None a b f g = absurd g
consumes_then (Some x) (Some y) (Some z) a b f g = f ∙ ap (λ t. a ++ t) g ∙ sym (append_assoc a b z)

-- what was read of a reader and stands behind some bytes
abbrev pub HasRead : Option (List ℕ) → Option (List ℕ) → List ℕ → List ℕ → Type 0
HasRead old new before after = (more : List ℕ) × (after ≡ before ++ more) × Consumes old new more

-- one call more
pub read_more : (r0 r1 r2 : Option (List ℕ)) (b0 b1 b2 : List ℕ) → HasRead r0 r1 b0 b1 → StartsWith b2 b1 → Consumes r1 r2 (appended_bytes b1 b2) → HasRead r0 r2 b0 b2
read_more r0 r1 r2 b0 b1 b2 done starts more =
    let new = appended_bytes b1 b2 in
    let whole : b2 ≡ b1 ++ new = sym (take-append-drop (length b1) b2) ∙ ap (λ t. t ++ new) starts in
    (done.0 ++ new, whole ∙ ap (λ t. t ++ new) done.1 ∙ append_assoc b0 done.0 new, consumes_then r0 r1 r2 done.0 new done.2 more)

-- what was read begins the content
pub begins : (told after : Option (List ℕ)) (limit : ℕ) (more : List ℕ) → Consumes (option_map (take limit) told) after more → BeginsTold told more
begins None after limit more f = tt
begins (Some xs) None limit more f = absurd f
begins (Some xs) (Some ys) limit more f =
    (ys ++ drop limit xs, sym (take-append-drop limit xs) ∙ ap (λ t. t ++ drop limit xs) f ∙ append_assoc more ys (drop limit xs))

-- a content that begins so is no shorter
longer : (told : Option (List ℕ)) (limit : ℕ) (more : List ℕ) → BeginsTold told more → limit < length more → IfSome told (λ content. limit < length content)
longer None limit more f over = tt
longer (Some xs) limit more f over =
    let sum : length xs ≡ length more + length f.0 = ap length f.1 ∙ length-append more f.0 in
    omega (arith, over, sum)

-- at the end, before the bound is reached, it is the content
pub at_end : (told after : Option (List ℕ)) (limit : ℕ) (more : List ℕ) → Consumes (option_map (take limit) told) after more → IsAtEnd after → length more < limit → IsTold told more
at_end None after limit more f end within = tt
at_end (Some xs) None limit more f end within = absurd f
at_end (Some xs) (Some ys) limit more f end within =
    let front : take limit xs ≡ more = f ∙ ap (λ t. more ++ t) end ∙ append-nil more in
    let count : length (take limit xs) ≡ length more = ap length front in
    let short : length xs ≤ limit = let bound = length-take limit xs in omega (arith, bound, count, within) in
    sym (take_all limit xs short) ∙ front

-- a fault that is not TooLong, behind a beginning of the content
pub failed : (fault : FileFault) (told : Option (List ℕ)) (limit : ℕ) (old new : List ℕ) → fault ≢ TooLong
    → (text : List ℕ) × (new ≡ old ++ text) × BeginsTold told text → IntoAfter (Err fault) told limit old new
failed Failed told limit old new other text = text
failed TooLong told limit old new other text = absurd (other refl)
failed Memory told limit old new other text = text

-- the same of a reader that gives no more than so many bytes
pub begins_taken : {R : Type 0} (left : R → Option (List ℕ)) (taken : Take R) (reader : R) (after : Option (List ℕ)) (more : List ℕ)
    → take_inner taken ≡ reader → Consumes (take_remaining left taken) after more → BeginsTold (left reader) more
begins_taken left taken reader after more is f = subst (λ r. BeginsTold (left r) more) is (begins (left taken.inner) after taken.limit more f)
