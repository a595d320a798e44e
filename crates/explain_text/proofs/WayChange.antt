-- With the GUIDs that come there and those that go gone a way agrees, and so the expression holds.
use Rattle.std.proofs.Common.{◌≡◌, Bool, true, false, ◌||◌, ◌&&◌, not, cond, List, [], ◌∷◌, filter, map, Some, refl, sym, ap, ◌∙◌, subst}
use Rattle.std.proofs.{lemmas.Slice.Eq.bytes_eq-Decides, lemmas.Cmp.nat_list_eq_equiv}
use Rattle.pi_base.specs.{declared.guid.Guid.Guid, Guids.same_guid, Lists.Each}
use Rattle.pi_base.proofs.ListFacts.{each_both, each_more}
use Rattle.depex_code.specs.Tree.{DepexTree, truth}
use Rattle.explain_text.specs.declared.ways.literal.Literal.{Literal}
use Rattle.explain_text.specs.Change.{Agrees, Makes, SaysOnce, change_by, is_one_of, is_wanted, wanted, with_change}
use Rattle.explain_text.specs.Ways.{Way, first_way, same_truth, ways}
use Rattle.explain_text.proofs.WayOnce.{IsKnown, Knows, each_knows, each_once}
use Rattle.explain_text.proofs.WayTruth.{is_enough}

self : (guid : Guid) → same_guid guid guid ≡ true
self guid = (bytes_eq-Decides guid.0 guid.0).1 refl

abbrev Named : (Literal → Bool) → Way → List Guid
Named test way = map (λ literal. literal.guid) (filter test way)

other_one : (test : Literal → Bool) (literal : Literal) (way : Way) (guid : Guid) → same_guid literal.guid guid ≡ false
    → is_one_of guid (Named test (literal ∷ way)) ≡ is_one_of guid (Named test way)
other_one test literal way guid apart = by (test literal)
  where
    by : (b : Bool) → is_one_of guid (map (λ other. other.guid) (cond b (literal ∷ filter test way) (filter test way))) ≡ is_one_of guid (Named test way)
    by true = ap (λ t. t || is_one_of guid (Named test way)) apart
    by false = refl

none_same : (test : Literal → Bool) (way : Way) (guid : Guid) → Each (λ other. same_guid guid other.guid ≡ false) way → is_one_of guid (Named test way) ≡ false
none_same test [] guid e = refl
none_same test (literal ∷ way) guid e =
    other_one test literal way guid (nat_list_eq_equiv.symm literal.guid.0 guid.0 ∙ e.0) ∙ none_same test way guid e.1

taken_one : (test : Literal → Bool) (literal : Literal) (way : Way) → test literal ≡ true → is_one_of literal.guid (Named test (literal ∷ way)) ≡ true
taken_one test literal way e =
    ap (λ b. is_one_of literal.guid (map (λ other. other.guid) (cond b (literal ∷ filter test way) (filter test way)))) e
    ∙ ap (λ t. t || is_one_of literal.guid (Named test way)) (self literal.guid)

passed_one : (test : Literal → Bool) (literal : Literal) (way : Way) → test literal ≡ false → Each (λ other. same_guid literal.guid other.guid ≡ false) way
    → is_one_of literal.guid (Named test (literal ∷ way)) ≡ false
passed_one test literal way e apart =
    ap (λ b. is_one_of literal.guid (map (λ other. other.guid) (cond b (literal ∷ filter test way) (filter test way)))) e ∙ none_same test way literal.guid apart

-- what the change leaves of a GUID, by whether it comes, was there, and goes
at : (come old go a b c : Bool) → come ≡ a → old ≡ b → go ≡ c → (come || (old && not go)) ≡ (a || (b && not c))
at come old go a b c x y z = ap (λ t. t || (old && not go)) x ∙ ap (λ t. a || (t && not go)) y ∙ ap (λ t. a || (b && not t)) z

first_agrees : (has : Guid → Bool) (literal : Literal) (way : Way) → IsKnown has literal → Each (λ other. same_guid literal.guid other.guid ≡ false) way
    → with_change has (change_by (literal ∷ way)) literal.guid ≡ literal.there
first_agrees has literal way known apart = by literal.there (has literal.guid) refl refl
  where
    come : Bool
    come = is_one_of literal.guid (wanted true (literal ∷ way))

    go : Bool
    go = is_one_of literal.guid (wanted false (literal ∷ way))

    test : (want there old : Bool) → literal.there ≡ there → has literal.guid ≡ old → is_wanted want literal ≡ not (same_truth old there) && same_truth want there
    test want there old x y =
        ap (λ t. not t && same_truth want literal.there) (known ∙ ap (λ t. same_truth t literal.there) y ∙ ap (same_truth old) x) ∙ ap (λ t. not (same_truth old there) && same_truth want t) x

    by : (there old : Bool) → literal.there ≡ there → has literal.guid ≡ old → (come || (has literal.guid && not go)) ≡ literal.there
    by true true x y =
        at come (has literal.guid) go false true false (passed_one (is_wanted true) literal way (test true true true x y) apart) y (passed_one (is_wanted false) literal way (test false true true x y) apart) ∙ sym x
    by true false x y =
        at come (has literal.guid) go true false false (taken_one (is_wanted true) literal way (test true true false x y)) y (passed_one (is_wanted false) literal way (test false true false x y) apart) ∙ sym x
    by false true x y =
        at come (has literal.guid) go false true true (passed_one (is_wanted true) literal way (test true false true x y) apart) y (taken_one (is_wanted false) literal way (test false false true x y)) ∙ sym x
    by false false x y =
        at come (has literal.guid) go false false false (passed_one (is_wanted true) literal way (test true false false x y) apart) y (passed_one (is_wanted false) literal way (test false false false x y) apart) ∙ sym x

-- the others are as they would be without the first
later_agrees : (has : Guid → Bool) (literal other : Literal) (way : Way) → same_guid literal.guid other.guid ≡ false
    → with_change has (change_by way) other.guid ≡ other.there → with_change has (change_by (literal ∷ way)) other.guid ≡ other.there
later_agrees has literal other way apart e =
    ap (λ t. t || (has other.guid && not (is_one_of other.guid (wanted false (literal ∷ way))))) (other_one (is_wanted true) literal way other.guid apart)
    ∙ ap (λ t. is_one_of other.guid (wanted true way) || (has other.guid && not t)) (other_one (is_wanted false) literal way other.guid apart) ∙ e

change_agrees : (has : Guid → Bool) (way : Way) → SaysOnce way → Knows has way → Agrees (with_change has (change_by way)) way
change_agrees has [] once knows = tt
change_agrees has (literal ∷ way) once knows = (
  first_agrees has literal way knows.0 once.0,
  each_more (λ other. (same_guid literal.guid other.guid ≡ false) × (with_change has (change_by way) other.guid ≡ other.there))
      (λ other. with_change has (change_by (literal ∷ way)) other.guid ≡ other.there) way (λ other both. later_agrees has literal other way both.0 both.1)
      (each_both (λ other. same_guid literal.guid other.guid ≡ false) (λ other. with_change has (change_by way) other.guid ≡ other.there) way once.0 (change_agrees has way once.1 knows.1)),
)

of_first : (P : Way → Type 0) (these : List Way) (way : Way) → Each P these → first_way these ≡ Some way → P way
of_first P [] way e is = absurd (cc)
of_first P (first ∷ others) way e is = let same : first ≡ way = cc in subst P same e.0

pub would_makes_it_hold : (has : Guid → Bool) (node : DepexTree) (way : Way) → first_way (ways has true node) ≡ Some way
    → truth (with_change has (change_by way)) node ≡ true
would_makes_it_hold has node way is =
    of_first (Makes true node) (ways has true node) way (is_enough has true node) is (with_change has (change_by way))
    (change_agrees has way (of_first SaysOnce (ways has true node) way (each_once has true node) is) (of_first (Knows has) (ways has true node) way (each_knows has true node) is))
