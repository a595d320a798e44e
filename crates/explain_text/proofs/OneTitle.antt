-- A module has one name, or none.
use Rattle.std.proofs.Common.{◌≡◌, ℕ, List, Option, Some, None, sym, ap, ◌∙◌, inl, inr}
use Rattle.fv_volume.specs.{declared.sections.section.Section.Section, declared.sections.fault.SecFault.SecFault}
use Rattle.fv_volume.specs.Stream.{AreSections, IsFirstFault}
use Rattle.explain_text.specs.Title.{IsTitleIn, IsTitleOf, title_among}

module _ (one : (bytes : List ℕ) (a b : List Section) → AreSections bytes a → AreSections bytes b → a ≡ b)
    (apart : (bytes : List ℕ) (a : List Section) (b : SecFault) → AreSections bytes a → IsFirstFault bytes b → ⊥) where
  one_in : (body : List ℕ) (a b : Option (List ℕ)) → IsTitleIn body a → IsTitleIn body b → a ≡ b
  one_in body a b (inl x) (inl y) = x.2 ∙ ap (title_among body) (one body x.0 y.0 x.1 y.1) ∙ sym y.2
  one_in body a b (inl x) (inr y) = absurd (apart body x.0 y.0 x.1 y.1)
  one_in body a b (inr x) (inl y) = absurd (apart body y.0 x.0 y.1 x.1)
  one_in body a b (inr x) (inr y) = x.2 ∙ sym y.2

  pub one_of : (body : Option (List ℕ)) (a b : Option (List ℕ)) → IsTitleOf body a → IsTitleOf body b → a ≡ b
  one_of None a b x y = x ∙ sym y
  one_of (Some body) a b x y = one_in body a b x y
