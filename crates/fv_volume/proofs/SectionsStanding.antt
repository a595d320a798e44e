-- Where the sections of a stream stand.
use Rattle.std.proofs.Common.{ℕ, ◌+◌, ◌≤◌, List, [], ◌∷◌, length, arith, All}
use Rattle.std.proofs.{lemmas.List.Elements.All-cons, lemmas.List.Kept.AllPairs-cons}
use Rattle.fv_volume.specs.declared.sections.section.Section.{Section}
use Rattle.fv_volume.specs.Stream.{Leads, place_after, AreInOrder}
use Rattle.fv_volume.proofs.Streams.{section_lies}

-- sections whose bodies stand from a place on up to an end
pub record Stand (from to : ℕ) (sections : List Section) : Type 0 where
  pub each : All (λ section. (from ≤ section.body_at) × (section.body_at + section.body_len ≤ to)) sections
  pub order : AreInOrder sections

stand_first : (from next to : ℕ) (section : Section) (rest : List Section) → from ≤ section.body_at → section.body_at + section.body_len ≤ next → section.body_at + section.body_len ≤ to
    → Stand next to rest → Stand from to (section ∷ rest)
stand_first from next to section rest begins before inside s = record {
  each = All-cons (λ x. (from ≤ x.body_at) × (x.body_at + x.body_len ≤ to)) section rest (begins, inside)
      (λ k d within. let x = s.each k d within in (omega (arith, x.0, begins, before), x.1));
  order = AllPairs-cons (λ a b. a.body_at + a.body_len ≤ b.body_at) section rest (λ k d within. let x = s.each k d within in omega (arith, x.0, before)) s.order;
}

pub sections_stand : (bytes : List ℕ) (from : ℕ) (sections : List Section) (to : ℕ) → Leads bytes from sections to → Stand from (length bytes) sections
sections_stand bytes from [] to path = record { each = λ k d within. absurd (omega arith); order = λ i j d below within. absurd (omega arith) }
sections_stand bytes from (section ∷ rest) to path =
    let lies = section_lies bytes from section path.1 in
    stand_first from (place_after section) (length bytes) section rest (omega (arith, lies.begins)) (omega arith) lies.ends (sections_stand bytes (place_after section) rest to path.2)
