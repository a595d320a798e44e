-- An order leads to one answer: to one place, and there to one thing that stands against its next start.
use Rattle.std.proofs.Common.{◌≡◌, ℕ, List, ◌++◌, Option, Some, None, Result, Ok, Err, refl, sym, ap, ◌∙◌, subst, inl, inr, arith, ◌≤◌, ◌-◌, ◌^◌, length, slice_get, take}
use Rattle.std.proofs.lemmas.Bool.{cases_lt}
use Rattle.pi_base.specs.{Field.AreBytes, Lists.Each}
use Rattle.boot_plan.specs.declared.plan.Plan.{Plan}
use Rattle.mod_catalog.specs.{declared.catalogue.Catalog.Catalog, declared.catalogue.Part.Part, declared.image_fault.ImageFault.ImageFault}
use Rattle.mod_catalog.specs.{Catalogue.IsCatalogue, ImageFault.IsImageFault, Parts.part_at, WellFormed.IsWellFormed}
use Rattle.store_model.specs.{HandleState.HandleState, StoreState.StoreState}
use Rattle.boot_model.specs.{declared.line.RunEnd.RunEnd, PlanBoard.board_of, Text.text_of}
use Rattle.recorded_boot.proofs.{Modules.one_module, OnePlace.one_place, PeiOrder.OrderBoot}
use Rattle.recorded_boot.specs.{Named.HasNoTwins, Named.IsFirstWithTwins, declared.order.line.AskedStart.AskedStart}
use Rattle.recorded_boot.specs.{declared.order.line.Start.Start, declared.order.lines.StartOrder.StartOrder}
use Rattle.recorded_boot.specs.{declared.follow.against.Against.Against, declared.follow.followed.Followed.Followed}
use Rattle.recorded_boot.specs.declared.follow.against.Against.TheVariants.{Unknown, Started, NotEligible}
use Rattle.recorded_boot.specs.declared.follow.followed.Followed.TheVariants.{Ended, Stopped, No}
use Rattle.recorded_boot.specs.{declared.follow.images.FollowFault.FollowFault, Answer.FollowsTo, ByOrder.starts_of}
use Rattle.recorded_boot.specs.declared.follow.images.FollowFault.TheVariants.{Image, Twins, Sink, Memory}
use Rattle.recorded_boot.specs.Against.{IsModuleOf, StandsAgainst, is_installed, lacking, pushed_in}
use Rattle.recorded_boot.specs.Follow.{Follows, HasTwins, IsFollowed}
use Rattle.recorded_boot.specs.{InOrder.Place, InOrder.last_lines, Leaving.ComesTo, Leaving.IsRefused}
use Rattle.recorded_boot.specs.OneBoot.{IsAnswer, OneAnswer, OneBoot, put}

-- a start has one part
one_part : (catalog : Catalog) (start : Start) (a b : Part) → HasNoTwins catalog → IsModuleOf catalog start a → IsModuleOf catalog start b → a ≡ b
one_part catalog start a b apart p q =
    let number : p.number ≡ q.number = one_module catalog start.volume start.name p.number q.number apart p.named q.named in
    let same : Some a ≡ Some b = sym p.part_is ∙ ap (part_at start.phase catalog) number ∙ q.part_is in
    cc

-- one thing stands against it
one_against : (catalog : Catalog) (made : List Start) (s : StoreState) (h : HandleState) (start : Start) (a b : Against) → HasNoTwins catalog → StandsAgainst catalog made s h start a → StandsAgainst catalog made s h start b → a ≡ b
one_against catalog made s h start Unknown Unknown apart p q = refl
one_against catalog made s h start Unknown Started apart p q = absurd (p q.0.0 q.0.1)
one_against catalog made s h start Unknown (NotEligible gs) apart p q = absurd (p q.1.0 q.1.1)
one_against catalog made s h start Started Unknown apart p q = absurd (q p.0.0 p.0.1)
one_against catalog made s h start Started Started apart p q = refl
one_against catalog made s h start Started (NotEligible gs) apart p q = absurd (q.0 p.1)
one_against catalog made s h start (NotEligible gs) Unknown apart p q = absurd (q p.1.0 p.1.1)
one_against catalog made s h start (NotEligible gs) Started apart p q = absurd (p.0 q.1)
one_against catalog made s h start (NotEligible gs) (NotEligible hs) apart p q =
    let same : p.1.0 ≡ q.1.0 = one_part catalog start p.1.0 q.1.0 apart p.1.1 q.1.1 in
    ap NotEligible (p.1.2 ∙ ap (λ (x : Part). lacking (is_installed start.phase s h) (pushed_in x.expr)) same ∙ sym q.1.2)

one_end : (end : Option RunEnd) (a b : RunEnd) → end ≡ Some a → end ≡ Some b → a ≡ b
one_end end a b e f = let same : Some a ≡ Some b = sym e ∙ f in cc

no_end : (end : Option RunEnd) (a : RunEnd) → end ≡ Some a → end ≡ None → ⊥
no_end end a e f = let gone : Some a ≡ None = sym e ∙ f in cc

asks_none : (order : StartOrder) (index : ℕ) (asked : AskedStart) → slice_get order.starts index ≡ Some asked → slice_get order.starts index ≡ None → ⊥
asks_none order index asked e f = let gone : Some asked ≡ None = sym e ∙ f in cc

one_asked : (a b : AskedStart) → Some a ≡ Some b → a ≡ b
one_asked a b e = cc

one_refused : (catalog : Catalog) (order : StartOrder) (index : ℕ) (s : StoreState) (h : HandleState) (m n : ℕ) (a b : Against) → HasNoTwins catalog → IsRefused catalog order index s h m a → IsRefused catalog order index s h n b → No m a ≡ No n b
one_refused catalog order index s h m n a b apart p q =
    let asked : p.asked ≡ q.asked = one_asked p.asked q.asked (sym p.asks ∙ q.asks) in
    let line : m ≡ n = p.line_is ∙ ap (λ (x : AskedStart). x.line) asked ∙ sym q.line_is in
    let stood = subst (λ (x : AskedStart). StandsAgainst catalog (starts_of (take index order.starts)) s h x.start a) asked p.stood in
    let against : a ≡ b = one_against catalog (starts_of (take index order.starts)) s h q.asked.start a b apart stood q.stood in
    ap (λ x. No x a) line ∙ ap (No n) against

-- a place comes to one thing
one_coming : (catalog : Catalog) (order : StartOrder) (index : ℕ) (s : StoreState) (h : HandleState) (end : Option RunEnd) (a b : Followed) → HasNoTwins catalog → ComesTo catalog order index s h end a → ComesTo catalog order index s h end b → a ≡ b
one_coming catalog order index s h end (Ended x) (Ended y) apart p q = ap Ended (one_end end x y p.0 q.0)
one_coming catalog order index s h end (Ended x) Stopped apart p q = absurd (no_end end x p.0 q.0)
one_coming catalog order index s h end (Ended x) (No n b) apart p q = absurd (asks_none order index q.asked q.asks p.1)
one_coming catalog order index s h end Stopped (Ended y) apart p q = absurd (no_end end y q.0 p.0)
one_coming catalog order index s h end Stopped Stopped apart p q = refl
one_coming catalog order index s h end Stopped (No n b) apart p q = absurd (asks_none order index q.asked q.asks p.1)
one_coming catalog order index s h end (No m a) (Ended y) apart p q = absurd (asks_none order index p.asked p.asks q.1)
one_coming catalog order index s h end (No m a) Stopped apart p q = absurd (asks_none order index p.asked p.asks q.1)
one_coming catalog order index s h end (No m a) (No n b) apart p q = one_refused catalog order index s h m n a b apart p q

pub one_boot : OneBoot
one_boot board catalog fuel order well apart few one other text told p q =
    let b : OrderBoot = record { board = board; catalog = catalog; fuel = fuel; order = order; well = well; apart = apart; few = few } in
    let here = p.1 in
    let there = q.1 in
    let same : here.place ≡ there.place = one_place b here.place there.place here.leads there.leads in
    let come = subst (λ (x : Place). ComesTo catalog order x.starts x.store x.handles x.«end» one) same here.comes in
    let at = there.place in
    let lines : Place → List ℕ = λ x. text_of (x.lines ++ last_lines x.store x.handles x.«end») in
    (one_coming catalog order at.starts at.store at.handles at.«end» one other apart come there.comes, here.text ∙ ap lines same ∙ sym there.text)

-- The laws of catalogues.
pub record Laws : Type 0 where
  pub catalogues : (plan : Plan) (images : List (List ℕ)) (a b : Catalog) → IsCatalogue plan images a → IsCatalogue plan images b → a ≡ b
  pub image_faults : (plan : Plan) (images : List (List ℕ)) (f g : ImageFault) → Each AreBytes images → IsImageFault plan images f → IsImageFault plan images g → f ≡ g
  pub catalogue_or_fault : (plan : Plan) (images : List (List ℕ)) (catalog : Catalog) (fault : ImageFault) → Each AreBytes images → IsCatalogue plan images catalog → IsImageFault plan images fault → ⊥
  pub well : (plan : Plan) (images : List (List ℕ)) (catalog : Catalog) → IsCatalogue plan images catalog → IsWellFormed catalog

one_volume : (catalog : Catalog) (m n : ℕ) → IsFirstWithTwins catalog m → IsFirstWithTwins catalog n → m ≡ n
one_volume catalog m n p q = elim (cases_lt m n) [
  | inl less ↦ absurd (q.first m less p.twins)
  | inr least ↦ elim (cases_lt n m) [ inl more ↦ absurd (p.first n more q.twins) | inr most ↦ omega (arith, least, most) ]
]

one_followed : Laws → (plan : Plan) (images : List (List ℕ)) (order : StartOrder) → length order.starts ≤ 2 ^ 32 - 1 → (one other : Followed) (text told : List ℕ) → IsFollowed plan images order (put text) one → IsFollowed plan images order (put told) other
    → (one ≡ other) × (text ≡ told)
one_followed laws plan images order few one other text told p q =
    let same : q.catalog ≡ p.catalog = laws.catalogues plan images q.catalog p.catalog q.sound p.sound in
    let there = subst (λ (x : Catalog). FollowsTo (board_of plan x images) x plan.fuel order (put told) (Ok other)) same q.is in
    one_boot (board_of plan p.catalog images) p.catalog plan.fuel order (laws.well plan images p.catalog p.sound) p.apart few one other text told p.is there

twins_or_none : Laws → (plan : Plan) (images : List (List ℕ)) (a b : Catalog) (volume : ℕ) → IsCatalogue plan images a → HasNoTwins a → IsCatalogue plan images b → IsFirstWithTwins b volume → ⊥
twins_or_none laws plan images a b volume p apart q first = let here = subst (λ (x : Catalog). IsFirstWithTwins x volume) (laws.catalogues plan images b a q p) first in apart volume here.twins

two_twins : Laws → (plan : Plan) (images : List (List ℕ)) (m n : ℕ) → HasTwins plan images m → HasTwins plan images n → m ≡ n
two_twins laws plan images m n p q = one_volume p.catalog m n p.is (subst (λ (x : Catalog). IsFirstWithTwins x n) (laws.catalogues plan images q.catalog p.catalog q.sound p.sound) q.is)

same_answer : Laws → (plan : Plan) (images : List (List ℕ)) (order : StartOrder) → Each AreBytes images → length order.starts ≤ 2 ^ 32 - 1 → (one other : Result Followed FollowFault) (text told : List ℕ) → IsAnswer one → IsAnswer other
    → Follows plan images order (put text) one → Follows plan images order (put told) other → (one ≡ other) × (text ≡ told)
same_answer laws plan images order are few (Ok one) (Ok other) text told a b p q = let same = one_followed laws plan images order few one other text told p q in (ap Ok same.0, same.1)
same_answer laws plan images order are few (Ok one) (Err (Image g)) text told a b p q = absurd (laws.catalogue_or_fault plan images p.catalog g are p.sound q.0)
same_answer laws plan images order are few (Ok one) (Err (Twins n)) text told a b p q = absurd (twins_or_none laws plan images p.catalog q.0.catalog n p.sound p.apart q.0.sound q.0.is)
same_answer laws plan images order are few (Ok one) (Err Sink) text told a b p q = absurd b
same_answer laws plan images order are few (Ok one) (Err Memory) text told a b p q = absurd b
same_answer laws plan images order are few (Err (Image f)) (Ok other) text told a b p q = absurd (laws.catalogue_or_fault plan images q.catalog f are q.sound p.0)
same_answer laws plan images order are few (Err (Image f)) (Err (Image g)) text told a b p q = (ap (λ x. Err (Image x)) (laws.image_faults plan images f g are p.0 q.0), p.1 ∙ sym q.1)
same_answer laws plan images order are few (Err (Image f)) (Err (Twins n)) text told a b p q = absurd (laws.catalogue_or_fault plan images q.0.catalog f are q.0.sound p.0)
same_answer laws plan images order are few (Err (Image f)) (Err Sink) text told a b p q = absurd b
same_answer laws plan images order are few (Err (Image f)) (Err Memory) text told a b p q = absurd b
same_answer laws plan images order are few (Err (Twins m)) (Ok other) text told a b p q = absurd (twins_or_none laws plan images q.catalog p.0.catalog m q.sound q.apart p.0.sound p.0.is)
same_answer laws plan images order are few (Err (Twins m)) (Err (Image g)) text told a b p q = absurd (laws.catalogue_or_fault plan images p.0.catalog g are p.0.sound q.0)
same_answer laws plan images order are few (Err (Twins m)) (Err (Twins n)) text told a b p q = (ap (λ x. Err (Twins x)) (two_twins laws plan images m n p.0 q.0), p.1 ∙ sym q.1)
same_answer laws plan images order are few (Err (Twins m)) (Err Sink) text told a b p q = absurd b
same_answer laws plan images order are few (Err (Twins m)) (Err Memory) text told a b p q = absurd b
same_answer laws plan images order are few (Err Sink) other text told a b p q = absurd a
same_answer laws plan images order are few (Err Memory) other text told a b p q = absurd a

pub one_answer : Laws → OneAnswer
one_answer laws plan images order are few one other text told a b p q = same_answer laws plan images order are few one other text told a b p q
