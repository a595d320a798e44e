-- The parts of a volume, rank by rank up to the last rank, and those without one.
use Rattle.std.proofs.Common.{◌≡◌, ℕ, zero, suc, ◌+◌, ◌-◌, ◌<◌, ◌≤◌, min, Bool, true, false, ◌&&◌, List, [], ◌∷◌, ◌++◌, length, sym, ap, ◌∙◌, refl, arith, length-append, append_assoc, flat_map, filter, Option, Some, None, is_some, if◌then◌else◌, slice_get, ◌==◌, option_and_then}
use Rattle.pi_base.specs.{declared.phase.Phase.Phase, Lists.numbers}
use Rattle.mod_catalog.specs.{declared.catalogue.Catalog.Catalog, declared.catalogue.Module.Module, declared.catalogue.Part.Part}
use Rattle.mod_catalog.specs.Parts.{part_of, parts_from, parts_in, rank_at}
use Rattle.phase_parts.specs.Parts.{is_ranked_as, is_part_as, wanted_from, wanted_in, ranked_below, ranked_parts, unranked_parts}

flat_map_same : (f g : ℕ → List ℕ) (xs : List ℕ) → ((x : ℕ) → f x ≡ g x) → flat_map f xs ≡ flat_map g xs
flat_map_same f g [] h = refl
flat_map_same f g (x ∷ xs) h = ap (λ ys. ys ++ flat_map f xs) (h x) ∙ ap (λ ys. g x ++ ys) (flat_map_same f g xs h)

-- ranks that no part has add nothing
cut_ranks : (f : ℕ → List ℕ) (from cut count : ℕ) → cut ≤ count → ((rank : ℕ) → from + cut ≤ rank → rank < from + count → f rank ≡ []) → flat_map f (numbers from cut) ≡ flat_map f (numbers from count)
cut_ranks f from zero zero below none = refl
cut_ranks f from zero (suc count) below none =
    let first : f from ≡ [] = none from (omega arith) (omega arith) in
    let rest = cut_ranks f (from + 1) zero count (omega arith) (λ rank above within. none rank (omega (arith, above)) (omega (arith, within))) in
    rw first rest
cut_ranks f from (suc cut) zero below none = absurd (omega (arith, below))
cut_ranks f from (suc cut) (suc count) below none =
    ap (λ xs. f from ++ xs) (cut_ranks f (from + 1) cut count (omega (arith, below)) (λ rank above within. none rank (omega (arith, above)) (omega (arith, within))))

-- the ranks up to the last one that a part has
few_ranks : (f : ℕ → List ℕ) (count end few : ℕ) → few ≡ min count end → ((rank : ℕ) → end ≤ rank → f rank ≡ []) → flat_map f (numbers 0 few) ≡ flat_map f (numbers 0 count)
few_ranks f count end few is none = cut_ranks f 0 few count (omega (arith, is)) (λ rank above within. none rank (omega (arith, is, above, within)))

-- one rank more
pub ranks_more : (f : ℕ → List ℕ) (rank count : ℕ) (parts next whole : List ℕ) → rank < count → next ≡ parts ++ f rank → parts ++ flat_map f (numbers rank (count - rank)) ≡ whole
    → next ++ flat_map f (numbers (rank + 1) (count - (rank + 1))) ≡ whole
ranks_more f rank count parts next whole below more so =
    let rest = flat_map f (numbers (rank + 1) (count - (rank + 1))) in
    let one : count - rank ≡ suc (count - (rank + 1)) = omega arith in
    let now : parts ++ (f rank ++ rest) ≡ whole = ap (λ n. parts ++ flat_map f (numbers rank n)) (sym one) ∙ so in
    ap (λ xs. xs ++ rest) more ∙ append_assoc parts (f rank) rest ∙ now

-- what is in front of others takes no more room than all
front_fits : (xs ys whole : List ℕ) (most : ℕ) → xs ++ ys ≡ whole → length whole ≤ most → length xs ≤ most
front_fits xs ys whole most so fits =
    let sum = length-append xs ys in
    let same = ap length so in
    omega (arith)

-- there is room for one rank more of a volume
pub rank_fits : (f : ℕ → List ℕ) (rank count : ℕ) (parts whole : List ℕ) (most : ℕ) → rank < count → parts ++ flat_map f (numbers rank (count - rank)) ≡ whole → length whole ≤ most
    → length (parts ++ f rank) ≤ most
rank_fits f rank count parts whole most below so fits =
    let rest = flat_map f (numbers (rank + 1) (count - (rank + 1))) in
    let one : count - rank ≡ suc (count - (rank + 1)) = omega arith in
    let now : parts ++ (f rank ++ rest) ≡ whole = ap (λ n. parts ++ flat_map f (numbers rank n)) (sym one) ∙ so in
    front_fits (parts ++ f rank) rest whole most (append_assoc parts (f rank) rest ∙ now) fits

-- one module more
wanted_one : (test : ℕ → Bool) (wanted : Option ℕ) (k : ℕ) (b : Bool) (part : Option Part) (xs ps : List ℕ) → test k ≡ is_ranked_as wanted (option_and_then (λ p. p.rank) part)
    → xs ≡ filter test ps → (if b && is_part_as wanted part then k ∷ xs else xs) ≡ filter test ((if b && is_some part then k ∷ [] else []) ++ ps)
wanted_one test wanted k false part xs ps e f = f
wanted_one test wanted k true None xs ps e f = f
wanted_one test wanted k true (Some part) xs ps e f =
    ap (λ zs. if is_ranked_as wanted part.rank then k ∷ zs else zs) f ∙ ap (λ t. if t then k ∷ filter test ps else filter test ps) (sym e)

-- what is wanted is filtered by rank, where these modules are those of the catalogue from a number on
wanted_is : (phase : Phase) (catalog : Catalog) (wanted : Option ℕ) (volume k : ℕ) (ms : List Module) → ((i : ℕ) → slice_get ms i ≡ slice_get catalog.modules (k + i))
    → wanted_from phase wanted volume k ms ≡ filter (λ n. is_ranked_as wanted (rank_at phase catalog n)) (parts_from phase volume k ms)
wanted_is phase catalog wanted volume k [] h = refl
wanted_is phase catalog wanted volume k (m ∷ ms) h =
    let at_k : k + 0 ≡ k = omega arith in
    let here : Some m ≡ slice_get catalog.modules k = h 0 ∙ ap (λ n. slice_get catalog.modules n) at_k in
    let rank : is_ranked_as wanted (rank_at phase catalog k) ≡ is_ranked_as wanted (option_and_then (λ p. p.rank) (part_of phase m)) =
    ap (λ found. is_ranked_as wanted (option_and_then (λ p. p.rank) (option_and_then (part_of phase) found))) (sym here) in
    let rest = wanted_is phase catalog wanted volume (k + 1) ms (λ i. let e : k + suc i ≡ (k + 1) + i = omega arith in h (suc i) ∙ ap (λ n. slice_get catalog.modules n) e) in
    wanted_one (λ n. is_ranked_as wanted (rank_at phase catalog n)) wanted k (m.volume == volume) (part_of phase m) (wanted_from phase wanted volume (k + 1) ms) (parts_from phase volume (k + 1) ms) rank rest

all_wanted : (phase : Phase) (catalog : Catalog) (wanted : Option ℕ) (volume : ℕ)
    → wanted_in phase wanted catalog volume ≡ filter (λ n. is_ranked_as wanted (rank_at phase catalog n)) (parts_in phase catalog volume)
all_wanted phase catalog wanted volume = wanted_is phase catalog wanted volume 0 catalog.modules (λ i. let e : i ≡ 0 + i = omega arith in ap (λ n. slice_get catalog.modules n) e)

-- the parts without a rank
pub unranked_are : (phase : Phase) (catalog : Catalog) (volume : ℕ) → wanted_in phase None catalog volume ≡ unranked_parts phase catalog volume
unranked_are phase catalog volume = all_wanted phase catalog None volume

-- the parts by rank, up to the last rank
pub ranked_are : (phase : Phase) (catalog : Catalog) (volume count end few : ℕ) → count ≡ length (parts_in phase catalog volume)
    → ((rank : ℕ) → end ≤ rank → wanted_in phase (Some rank) catalog volume ≡ []) → few ≡ min count end
    → ranked_below phase catalog volume few ≡ ranked_parts phase catalog volume
ranked_are phase catalog volume count end few n none is =
    let all = parts_in phase catalog volume in
    let by_rank : ℕ → List ℕ = λ rank. filter (λ number. is_ranked_as (Some rank) (rank_at phase catalog number)) all in
    let listed : ℕ → List ℕ = λ rank. wanted_in phase (Some rank) catalog volume in
    few_ranks listed count end few is none ∙ flat_map_same listed by_rank (numbers 0 count) (λ rank. all_wanted phase catalog (Some rank) volume) ∙ ap (λ k. flat_map by_rank (numbers 0 k)) n
