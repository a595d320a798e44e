-- The words of who may install a GUID, as they are put one by one.
use Rattle.std.proofs.Common.{◌≡◌, ℕ, suc, ◌+◌, ◌-◌, ◌<◌, ◌≤◌, ◌==◌, Bool, true, false, cond, List, [], ◌∷◌, ◌++◌, length, take, drop, get_or, map, flat_map, decimal, Option, Some, None, refl, sym, ap, subst, ◌∙◌, append_assoc, arith, nat_lt, OnOk, Result, Ok, Err, append-nil, take_all, length-drop}
use Rattle.std.proofs.{lemmas.Bool.Decides.nat_tests, lemmas.Grind.flat_map-append, lemmas.List.take_more, lemmas.List.flat_map_more}
use Rattle.boot_io.specs.Line.{line_of, spaced}
use Rattle.pi_base.specs.{Lists.Each, declared.guid.Guid.Guid, declared.phase.Phase.Phase}
use Rattle.mod_catalog.specs.{declared.catalogue.Module.Module, Parts.part_of}
use Rattle.explain_text.specs.{Fronts.front_of, declared.reasons.Begun.Begun, declared.givers.Link.Link, Context.IsContext}
use Rattle.explain_text.specs.declared.keyword.Keyword.TheVariants as K
use Rattle.explain_text.specs.{declared.context.Context.Context, Flags.flag, Flags.has_started, Words.word_of}
use Rattle.explain_text.specs.Givers.{Chain, givers_from, link_at, part_gives}
use Rattle.explain_text.specs.HeldLines.{core_gives, lacks_words, or_dash, pair_words, told_words, with_core}

-- what follows from what was put without a failure
pub on_ok : {E : Type 0} (r : Result (Unit {0}) E) (P Q : Type 0) → (P → Q) → OnOk r P → OnOk r Q
on_ok (Ok u) P Q f p = f p
on_ok (Err e) P Q f p = p

-- the front of a line, with words behind it
pub line_more : (keyword : List ℕ) (front more : List (List ℕ)) → (front_of keyword front ++ flat_map spaced more) ++ 10 ∷ [] ≡ line_of keyword (front ++ more)
line_more keyword front more =
    ap (λ text. text ++ 10 ∷ []) (append_assoc keyword (flat_map spaced front) (flat_map spaced more) ∙ ap (λ text. keyword ++ text) (sym (flat_map-append spaced front more)))

-- so many of the modules are told, from the place on which the others are linked
pub record Walked (links : List Link) (first place : Option ℕ) (started : ℕ → Bool) (count : ℕ) (old new : List ℕ) : Type 0 where
  pub each : (numbers : List ℕ) → Chain links first numbers
      → Chain links place (drop count numbers) × (count ≤ length numbers) × (new ≡ old ++ flat_map spaced (flat_map (pair_words started) (take count numbers)))

pub nobody : (links : List Link) (first : Option ℕ) (started : ℕ → Bool) (out : List ℕ) → Walked links first first started 0 out out
nobody links first started out = record { each = λ numbers chain. (chain, omega arith, sym (append-nil out)) }

next_of : (links : List Link) (place : Option ℕ) (link : Link) (rest : List ℕ) → link_at links place ≡ Some link → Chain links place rest
    → (number : ℕ) × (others : List ℕ) × (rest ≡ number ∷ others) × (link.number ≡ number) × Chain links link.next others
next_of links place link [] e chain =
    let none : link_at links None ≡ Some link = ap (link_at links) (sym chain) ∙ e in absurd cc
next_of links place link (number ∷ others) e chain =
    let one : chain.0 ≡ link = (let both : Some chain.0 ≡ Some link = sym chain.1 ∙ e in cc) in
    (number, others, refl, ap (λ (l : Link). l.number) (sym one) ∙ chain.2, subst (λ (l : Link). Chain links l.next others) one chain.3)

split_suc : (numbers : List ℕ) (count number : ℕ) (others : List ℕ) → drop count numbers ≡ number ∷ others → (drop (suc count) numbers ≡ others) × (take (suc count) numbers ≡ take count numbers ++ number ∷ [])
split_suc [] ℕ.zero number others e = absurd cc
split_suc [] (suc count) number others e = absurd cc
split_suc (n ∷ ns) ℕ.zero number others e =
    let first : n ≡ number = cc in
    let rest : ns ≡ others = cc in
    (rest, ap (λ x. x ∷ []) first)
split_suc (n ∷ ns) (suc count) number others e = let more = split_suc ns count number others e in (more.0, ap (λ xs. n ∷ xs) more.1)

split_at : (numbers : List ℕ) (count number : ℕ) (others : List ℕ) → drop count numbers ≡ number ∷ others → (drop (count + 1) numbers ≡ others) × (take (count + 1) numbers ≡ take count numbers ++ number ∷ [])
split_at numbers count number others e =
    let later : count + 1 ≡ suc count = omega arith in
    let parts = split_suc numbers count number others e in
    (ap (λ n. drop n numbers) later ∙ parts.0, ap (λ n. take n numbers) later ∙ parts.1)

-- one module more
pub one_more : (links : List Link) (first place : Option ℕ) (started : ℕ → Bool) (count : ℕ) (link : Link) (old mid new : List ℕ) → Walked links first place started count old mid
    → link_at links place ≡ Some link → new ≡ mid ++ flat_map spaced (pair_words started link.number) → Walked links first link.next started (count + 1) old new
one_more links first place started count link old mid new walked e put = record {
  each = λ numbers chain.
      let so_far = walked.each numbers chain in
      let next = next_of links place link (drop count numbers) e so_far.0 in
      let parts = split_at numbers count next.0 next.1 next.2 in
      let P : List ℕ → Type 0 = λ rest. Chain links link.next rest in
      let long : suc (length next.1) ≡ length numbers - count = ap length (sym next.2) ∙ length-drop count numbers in
      let told : flat_map (pair_words started) (take (count + 1) numbers) ≡ flat_map (pair_words started) (take count numbers) ++ pair_words started link.number =
      ap (flat_map (pair_words started)) parts.1 ∙ flat_map-append (pair_words started) (take count numbers) (next.0 ∷ [])
      ∙ ap (λ words. flat_map (pair_words started) (take count numbers) ++ words) (append-nil (pair_words started next.0) ∙ ap (pair_words started) (sym next.3)) in (
        subst P (sym parts.0) next.4,
        omega (arith, long, so_far.1),
        put ∙ ap (λ text. text ++ flat_map spaced (pair_words started link.number)) so_far.2
            ∙ append_assoc old (flat_map spaced (flat_map (pair_words started) (take count numbers))) (flat_map spaced (pair_words started link.number))
            ∙ ap (λ text. old ++ text) (sym (ap (flat_map spaced) told ∙ flat_map-append spaced (flat_map (pair_words started) (take count numbers)) (pair_words started link.number))),
      );
}

-- no module is left
none_left : (links : List Link) (place : Option ℕ) (rest : List ℕ) → link_at links place ≡ None → Chain links place rest → rest ≡ []
none_left links place [] e chain = refl
none_left links place (number ∷ others) e chain = let both : Some chain.0 ≡ None = sym chain.1 ∙ e in absurd cc

pub all_told : (links : List Link) (first place : Option ℕ) (started : ℕ → Bool) (count : ℕ) (old new : List ℕ) → Walked links first place started count old new → count ≤ 16 → link_at links place ≡ None
    → (numbers : List ℕ) → Chain links first numbers → new ≡ old ++ flat_map spaced (told_words started numbers)
all_told links first place started count old new walked few e numbers chain =
    let so_far = walked.each numbers chain in
    let none : length numbers - count ≡ 0 = sym (length-drop count numbers) ∙ ap length (none_left links place (drop count numbers) e so_far.0) in
    let short : length numbers ≤ count = omega (arith, none, so_far.1) in
    let tests : nat_lt 16 (length numbers) ≡ false = grind (arith, nat_tests) in
    let words : told_words started numbers ≡ flat_map (pair_words started) (take count numbers) =
    ap (λ b. flat_map (pair_words started) (take 16 numbers) ++ cond b (word_of K.More ∷ []) []) tests ∙ append-nil (flat_map (pair_words started) (take 16 numbers))
    ∙ ap (flat_map (pair_words started)) (take_all 16 numbers (omega (arith, short, few)) ∙ sym (take_all count numbers short)) in
    so_far.2 ∙ ap (λ words. old ++ flat_map spaced words) (sym words)

-- some are left behind sixteen of them
pub some_left : (links : List Link) (first place : Option ℕ) (started : ℕ → Bool) (link : Link) (old mid new : List ℕ) → Walked links first place started 16 old mid → link_at links place ≡ Some link
    → new ≡ mid ++ spaced (word_of K.More) → (numbers : List ℕ) → Chain links first numbers → new ≡ old ++ flat_map spaced (told_words started numbers)
some_left links first place started link old mid new walked e put numbers chain =
    let so_far = walked.each numbers chain in
    let next = next_of links place link (drop 16 numbers) e so_far.0 in
    let long : suc (length next.1) ≡ length numbers - 16 = ap length (sym next.2) ∙ length-drop 16 numbers in
    let tests : nat_lt 16 (length numbers) ≡ true = grind (arith, nat_tests) in
    let told = flat_map (pair_words started) (take 16 numbers) in
    let words : told_words started numbers ≡ told ++ word_of K.More ∷ [] = ap (λ b. flat_map (pair_words started) (take 16 numbers) ++ cond b (word_of K.More ∷ []) []) tests in
    put ∙ ap (λ text. text ++ spaced (word_of K.More)) so_far.2 ∙ append_assoc old (flat_map spaced told) (spaced (word_of K.More))
    ∙ ap (λ text. old ++ text) (sym (ap (flat_map spaced) words ∙ flat_map-append spaced told (word_of K.More ∷ []) ∙ ap (λ text. flat_map spaced told ++ text) (append-nil (spaced (word_of K.More)))))

-- the words of modules are those of the flags
same_pairs : (f g : ℕ → Bool) (numbers : List ℕ) → Each (λ n. f n ≡ g n) numbers → (count : ℕ) → flat_map (pair_words f) (take count numbers) ≡ flat_map (pair_words g) (take count numbers)
same_pairs f g [] each ℕ.zero = refl
same_pairs f g [] each (suc count) = refl
same_pairs f g (n ∷ ns) each ℕ.zero = refl
same_pairs f g (n ∷ ns) each (suc count) =
    ap (λ b. pair n b ++ flat_map (pair_words f) (take count ns)) each.0 ∙ ap (λ words. pair_words g n ++ words) (same_pairs f g ns each.1 count)
  where
    pair : ℕ → Bool → List (List ℕ)
    pair n b = decimal n ∷ word_of (cond b K.Started K.Waits) ∷ []

pub same_words : (f g : ℕ → Bool) (numbers : List ℕ) → Each (λ n. f n ≡ g n) numbers → told_words f numbers ≡ told_words g numbers
same_words f g numbers each = ap (λ words. words ++ cond (nat_lt 16 (length numbers)) (word_of K.More ∷ []) []) (same_pairs f g numbers each 16)

givers_within : (P : ℕ → Type 0) (phase : Phase) (guid : Guid) (from count : ℕ) (modules : List Module) → ((n : ℕ) → n < count → P n) → from + length modules ≤ count → Each P (givers_from phase guid from modules)
givers_within P phase guid from count [] each within = tt
givers_within P phase guid from count (m ∷ ms) each within =
    by (part_gives guid (part_of phase m)) (givers_within P phase guid (from + 1) count ms each (omega (arith, within)))
  where
    by : (b : Bool) → Each P (givers_from phase guid (from + 1) ms) → Each P (cond b (from ∷ []) [] ++ givers_from phase guid (from + 1) ms)
    by true rest = (each from (omega (arith, within)), rest)
    by false rest = rest

pub told_by_context : (begun : List Begun) (modules : List Module) (phase : Phase) (guid : Guid) (context : Context) → IsContext begun modules phase context
    → told_words (flag context.started) (givers_from phase guid 0 modules) ≡ told_words (has_started begun phase) (givers_from phase guid 0 modules)
told_by_context begun modules phase guid context is =
    same_words (flag context.started) (has_started begun phase) (givers_from phase guid 0 modules)
    (givers_within (λ n. flag context.started n ≡ has_started begun phase n) phase guid 0 (length modules) modules is.started.each (omega arith))

-- what is added in three parts, and a line in three parts
pub three_added : (old first second new x y z : List ℕ) → first ≡ old ++ x → second ≡ first ++ y → new ≡ second ++ z → new ≡ old ++ (x ++ (y ++ z))
three_added old first second new x y z e f g =
    g ∙ ap (λ t. t ++ z) (f ∙ ap (λ t. t ++ y) e) ∙ ap (λ t. t ++ z) (append_assoc old x y) ∙ append_assoc old (x ++ y) z ∙ ap (λ t. old ++ t) (append_assoc x y z)

pub line_added : (keyword : List ℕ) (front more : List (List ℕ)) (old first second new : List ℕ) → first ≡ old ++ front_of keyword front → second ≡ first ++ flat_map spaced more → new ≡ second ++ 10 ∷ []
    → new ≡ old ++ line_of keyword (front ++ more)
line_added keyword front more old first second new e f g =
    three_added old first second new (front_of keyword front) (flat_map spaced more) (10 ∷ []) e f g
    ∙ ap (λ t. old ++ t) (sym (append_assoc (front_of keyword front) (flat_map spaced more) (10 ∷ [])) ∙ line_more keyword front more)

-- an item's text behind those before it
pub text_next : {A : Type 0} (f : A → List ℕ) (xs : List A) (i : ℕ) (d : A) (out old new : List ℕ) → i < length xs → new ≡ old ++ f (get_or xs i d) → old ≡ out ++ flat_map f (take i xs)
    → new ≡ out ++ flat_map f (take (i + 1) xs)
text_next f xs i d out old new within put before =
    put ∙ ap (λ t. t ++ f (get_or xs i d)) before ∙ append_assoc out (flat_map f (take i xs)) (f (get_or xs i d))
    ∙ ap (λ t. out ++ t) (sym (ap (flat_map f) (take_more xs i d within) ∙ flat_map-append f (take i xs) (get_or xs i d ∷ []) ∙ ap (λ t. flat_map f (take i xs) ++ t) (append-nil (f (get_or xs i d)))))

-- no module, and some
pub nobody_told : (links : List Link) (first : Option ℕ) (started : ℕ → Bool) → link_at links first ≡ None → (numbers : List ℕ) → Chain links first numbers
    → spaced (word_of K.Dash) ≡ flat_map spaced (or_dash (told_words started numbers))
nobody_told links first started e numbers chain =
    sym (append-nil (spaced (word_of K.Dash))) ∙ ap (λ list. flat_map spaced (or_dash (told_words started list))) (sym (none_left links first numbers e chain))

pub somebody_told : (links : List Link) (first : Option ℕ) (started : ℕ → Bool) (link : Link) → link_at links first ≡ Some link → (numbers : List ℕ) → Chain links first numbers
    → told_words started numbers ≡ or_dash (told_words started numbers)
somebody_told links first started link e [] chain = let none : link_at links None ≡ Some link = ap (link_at links) (sym chain) ∙ e in absurd cc
somebody_told links first started link e (number ∷ numbers) chain = refl

-- the words of who may install a GUID, with the core and without
pub words_with : (begun : List Begun) (modules : List Module) (phase : Phase) (guid : Guid) (context : Context) → IsContext begun modules phase context → core_gives phase guid ≡ true
    → with_core (told_words (flag context.started) (givers_from phase guid 0 modules)) ≡ lacks_words begun modules phase guid
words_with begun modules phase guid context is e =
    let words = told_words (has_started begun phase) (givers_from phase guid 0 modules) in
    ap with_core (told_by_context begun modules phase guid context is) ∙ ap (λ b. cond b (with_core words) (or_dash words)) (sym e)

pub words_without : (begun : List Begun) (modules : List Module) (phase : Phase) (guid : Guid) (context : Context) → IsContext begun modules phase context → core_gives phase guid ≡ false
    → or_dash (told_words (flag context.started) (givers_from phase guid 0 modules)) ≡ lacks_words begun modules phase guid
words_without begun modules phase guid context is e =
    let words = told_words (has_started begun phase) (givers_from phase guid 0 modules) in
    ap or_dash (told_by_context begun modules phase guid context is) ∙ ap (λ b. cond b (with_core words) (or_dash words)) (sym e)

-- a text more was put
pub text_put : {X : Type 0} (f : X → List ℕ) (xs : List X) (i : ℕ) (d : X) (out old new : List ℕ) → i < length xs → new ≡ old ++ f (get_or xs i d) → old ≡ out ++ flat_map f (take i xs)
    → new ≡ out ++ flat_map f (take (i + 1) xs)
text_put f xs i d out old new within put before =
    put ∙ ap (λ t. t ++ f (get_or xs i d)) before ∙ flat_map_more f out (take i xs) (get_or xs i d) ∙ ap (λ l. out ++ flat_map f l) (sym (take_more xs i d within))

texts_more : {X : Type 0} (text : X → List ℕ) (xs : List X) (x : X) → map text (xs ++ x ∷ []) ≡ map text xs ++ text x ∷ []
texts_more text [] x = refl
texts_more text (y ∷ ys) x = ap (λ l. text y ∷ l) (texts_more text ys x)

-- a word more was put
pub word_put : {X : Type 0} (text : X → List ℕ) (xs : List X) (i : ℕ) (d : X) (out old new : List ℕ) → i < length xs → new ≡ old ++ spaced (text (get_or xs i d)) → old ≡ out ++ flat_map spaced (map text (take i xs))
    → new ≡ out ++ flat_map spaced (map text (take (i + 1) xs))
word_put text xs i d out old new within put before =
    put ∙ ap (λ t. t ++ spaced (text (get_or xs i d))) before ∙ flat_map_more spaced out (map text (take i xs)) (text (get_or xs i d))
    ∙ ap (λ l. out ++ flat_map spaced l) (sym (texts_more text (take i xs) (get_or xs i d))) ∙ ap (λ l. out ++ flat_map spaced (map text l)) (sym (take_more xs i d within))

-- all words were put
pub all_put : {X : Type 0} (text : X → List ℕ) (xs : List X) (i : ℕ) (out new : List ℕ) → length xs ≤ i → new ≡ out ++ flat_map spaced (map text (take i xs))
    → new ≡ out ++ flat_map spaced (map text xs)
all_put text xs i out new all before = before ∙ ap (λ l. out ++ flat_map spaced (map text l)) (take_all i xs all)

-- a module and whether it started, one word after the other
pub pair_added : (started : ℕ → Bool) (number : ℕ) (old mid new : List ℕ) → mid ≡ old ++ spaced (decimal number) → new ≡ mid ++ spaced (word_of (cond (started number) K.Started K.Waits))
    → new ≡ old ++ flat_map spaced (pair_words started number)
pair_added started number old mid new e f =
    let first = spaced (decimal number) in
    let second = spaced (word_of (cond (started number) K.Started K.Waits)) in
    f ∙ ap (λ t. t ++ second) e ∙ append_assoc old first second ∙ ap (λ t. old ++ (first ++ t)) (sym (append-nil second))

-- what is added behind what was added before
pub next_added : (old mid new x y : List ℕ) → mid ≡ old ++ x → new ≡ mid ++ y → new ≡ old ++ (x ++ y)
next_added old mid new x y e f = f ∙ ap (λ t. t ++ y) e ∙ append_assoc old x y
