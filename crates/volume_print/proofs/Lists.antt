-- Lists with one thing more.
use Rattle.std.proofs.Common.{◌≡◌, ℕ, ◌+◌, ◌<◌, zero, suc, arith, Bool, true, false, List, [], ◌∷◌, ◌++◌, length, map, take, get_or, flat_map, refl, sym, ap, ◌∙◌, subst, append_assoc, append-nil, ◌||◌, ◌*◌, codes}
use Rattle.std.proofs.{lemmas.Grind.flat_map-append, lemmas.List.map-append, lemmas.List.take_more, lemmas.List.Folds.list_any-append}
use Rattle.std.specs.List.{list_any}
use Rattle.pi_base.specs.{declared.guid.Guid.Guid, Guids.guid_at, Lists.numbers, WordText.guid_text}
use Rattle.fv_volume.specs.{declared.build.new_file.NewSection.NewSection, Reading.AreEach}
use Rattle.volume_print.specs.declared.form.Host.{Host}
use Rattle.volume_print.specs.Spelling.{guid_word, IsSectionText, AreSectionTexts, whole}

-- each pair, and one more
pub each_more : {A B : Type 0} (Is : A → B → Type 0) (xs : List A) (ys : List B) (x : A) (y : B) → AreEach Is xs ys → Is x y → AreEach Is (xs ++ x ∷ []) (ys ++ y ∷ [])
each_more Is [] [] x y all is = (is, tt)
each_more Is [] (b ∷ ys) x y all is = absurd all
each_more Is (a ∷ xs) [] x y all is = absurd all
each_more Is (a ∷ xs) (b ∷ ys) x y all is = (all.0, each_more Is xs ys x y all.1 is)

-- the texts of sections, and of one more
pub texts_more : (Inner : List ℕ → List ℕ → Type 0) (host : Host) (before sections : List NewSection) (section : NewSection) (texts : List (List ℕ)) (text : List ℕ)
    → AreSectionTexts Inner host before sections texts
    → IsSectionText Inner host (before ++ sections) section text → AreSectionTexts Inner host before (sections ++ section ∷ []) (texts ++ text ∷ [])
texts_more Inner host before [] section [] text all is = (subst (λ (b : List NewSection). IsSectionText Inner host b section text) (append-nil before) is, tt)
texts_more Inner host before [] section (t ∷ texts) text all is = absurd all
texts_more Inner host before (s ∷ sections) section [] text all is = absurd all
texts_more Inner host before (s ∷ sections) section (t ∷ texts) text all is = (
  all.0,
  texts_more Inner host (before ++ s ∷ []) sections section texts text all.1
      (subst (λ (b : List NewSection). IsSectionText Inner host b section text) (sym (append_assoc before (s ∷ []) sections)) is),
)

-- texts one behind the other, and one more
pub whole_more : (old now new text : List ℕ) (texts : List (List ℕ)) → now ≡ old ++ whole texts → new ≡ now ++ text → new ≡ old ++ whole (texts ++ text ∷ [])
whole_more old now new text texts before grown =
    grown ∙ ap (λ xs. xs ++ text) before ∙ append_assoc old (whole texts) text ∙ ap (λ xs. old ++ (whole texts ++ xs)) (sym (append-nil text))
    ∙ ap (λ xs. old ++ xs) (sym (flat_map-append (λ t. t) texts (text ∷ [])))

-- the items up to one more, each seen by a function
pub map_more : {X Y : Type 0} (f : X → Y) (xs : List X) (i : ℕ) (d : X) → i < length xs → map f (take (i + 1) xs) ≡ map f (take i xs) ++ f (get_or xs i d) ∷ []
map_more f xs i d within = ap (map f) (take_more xs i d within) ∙ map-append f (take i xs) (get_or xs i d ∷ [])

or_false : (a b : Bool) → a ≡ false → b ≡ false → (a || (b || false)) ≡ false
or_false a b p q = rw (p, q) refl

-- a test that no item passed so far, nor one more
pub none_more : {X : Type 0} (test : X → Bool) (xs : List X) (x : X) → list_any test xs ≡ false → test x ≡ false → list_any test (xs ++ x ∷ []) ≡ false
none_more test xs x none is = list_any-append test xs (x ∷ []) ∙ or_false (list_any test xs) (test x) none is

or_true : (b : Bool) → (b || true) ≡ true
or_true true = refl
or_true false = refl

-- a test that one item passes
pub some_at : {X Y : Type 0} (test : Y → Bool) (f : X → Y) (xs : List X) (i : ℕ) (d : X) → i < length xs → test (f (get_or xs i d)) ≡ true → list_any test (map f xs) ≡ true
some_at test f [] i d within passes = absurd (omega arith)
some_at test f (y ∷ xs) zero d within passes = rw passes refl
some_at test f (y ∷ xs) (suc i) d within passes = rw (some_at test f xs i d (omega arith) passes) (or_true (test (f y)))

-- one number more
numbers_more : (from count : ℕ) → numbers from (suc count) ≡ numbers from count ++ (from + count) ∷ []
numbers_more from zero = let e : from ≡ from + 0 = omega arith in ap (λ n. n ∷ []) e
numbers_more from (suc count) =
    let e : from + 1 + count ≡ from + suc count = omega arith in
    ap (λ l. from ∷ l) (numbers_more (from + 1) count ∙ ap (λ n. numbers (from + 1) count ++ n ∷ []) e)

-- the words of the GUIDs so far, and of one more
pub guids_more : (image old now mid new : List ℕ) (index next : ℕ) → next ≡ suc index → now ≡ old ++ flat_map guid_word (map (λ i. guid_at image (16 * i)) (numbers 0 index)) → mid ≡ now ++ codes " "
    → new ≡ mid ++ guid_text (guid_at image (16 * index)) → new ≡ old ++ flat_map guid_word (map (λ i. guid_at image (16 * i)) (numbers 0 next))
guids_more image old now mid new index next is before space guid =
    let f : ℕ → Guid = λ i. guid_at image (16 * i) in
    let words = flat_map guid_word (map f (numbers 0 index)) in
    let one = guid_word (f index) in
    let zero_in : 0 + index ≡ index = omega arith in
    let more : flat_map guid_word (map f (numbers 0 next)) ≡ words ++ (one ++ []) =
    ap (λ n. flat_map guid_word (map f (numbers 0 n))) is ∙ ap (λ l. flat_map guid_word (map f l)) (numbers_more 0 index ∙ ap (λ n. numbers 0 index ++ n ∷ []) zero_in) ∙ ap (flat_map guid_word) (map-append f (numbers 0 index) (index ∷ []))
    ∙ flat_map-append guid_word (map f (numbers 0 index)) (f index ∷ []) in
    guid ∙ ap (λ t. t ++ guid_text (f index)) (space ∙ ap (λ t. t ++ codes " ") before) ∙ append_assoc (old ++ words) (codes " ") (guid_text (f index))
    ∙ append_assoc old words one ∙ ap (λ t. old ++ t) (ap (λ t. words ++ t) (sym (append-nil one)) ∙ sym more)
