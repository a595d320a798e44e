use Rattle.std.proofs.Common.{sym, ap, ◌∙◌, inl, inr, subst}
use Rattle.fv_volume.specs.{Search.IsListing, Search.IsSearchFault, Volume.image_of, Frame.frame_of}
use Rattle.fv_volume.proofs.Volumes.{same_frame, not_both, same_fault, made_volume, one_listing, one_fault, no_fault, some_volume}
use Rattle.fv_volume.proofs.law.one_reading.Goals as goal

pub returns-clause-volumes : goal.returns-clause-volumes
returns-clause-volumes c = λ bytes a b p q.
    let one = same_frame p.0 q.0 (frame_of bytes) p.1 q.1 in
    let listing = subst (λ frame. IsListing (image_of bytes frame) frame b.files) (sym one) q.4 in
    made_volume a b (p.2 ∙ ap (λ frame. frame.len) one ∙ sym q.2) (p.3 ∙ ap (λ frame. frame.name) one ∙ sym q.3)
    (one_listing (image_of bytes p.0) p.0 a.files b.files p.4 listing)

pub returns-clause-faults : goal.returns-clause-faults
returns-clause-faults c = λ bytes f g p q. elim p [
  | inl headers ↦ elim q [
    | inl others ↦ same_fault f g (frame_of bytes) headers others
    | inr search ↦ absurd (not_both search.0 f (frame_of bytes) search.1 headers)
  ]
  | inr search ↦ elim q [
    | inl headers ↦ absurd (not_both search.0 g (frame_of bytes) search.1 headers)
    | inr other ↦
        let one = same_frame search.0 other.0 (frame_of bytes) search.1 other.1 in
        one_fault (image_of bytes search.0) search.0 f g search.2 (subst (λ frame. IsSearchFault (image_of bytes frame) frame g) (sym one) other.2)
  ]
]

pub returns-clause-apart : goal.returns-clause-apart
returns-clause-apart c = λ bytes a f p q. elim q [
  | inl headers ↦ not_both p.0 f (frame_of bytes) p.1 headers
  | inr search ↦
      let one = same_frame p.0 search.0 (frame_of bytes) p.1 search.1 in
      no_fault (image_of bytes p.0) p.0 a.files f p.4 (subst (λ frame. IsSearchFault (image_of bytes frame) frame f) (sym one) search.2)
]

pub returns-clause-some : goal.returns-clause-some
returns-clause-some c = λ bytes. some_volume bytes
