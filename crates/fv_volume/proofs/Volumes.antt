-- All bytes are a volume or have a first fault, and not both; and where the files of a volume stand.
use Rattle.std.proofs.Common.{◌≡◌, ℕ, ◌⊎◌, true, false, List, [], length, Option, Result, Ok, Err, refl, sym, ap, ◌∙◌, arith, inl, inr}
use Rattle.pi_base.specs.declared.guid.Guid.{Guid}
use Rattle.fv_volume.specs.{declared.file.FfsFile.FfsFile, declared.volume.Volume.Volume, declared.frame.Frame.Frame}
use Rattle.fv_volume.specs.{declared.item.Item.Item, declared.fault.VolCause.VolCause, declared.fault.VolFault.VolFault, Frame.frame_of}
use Rattle.fv_volume.specs.Search.{IsListing, IsSearchFault, ends_at, met_at, files_of}
use Rattle.fv_volume.specs.Volume.{image_of, IsVolume, IsFirstFault}
use Rattle.fv_volume.proofs.OneListing.{one_leads, end_stops, fault_stops, some_search}

pub same_frame : (a b : Frame) (r : Result Frame VolFault) → r ≡ Ok a → r ≡ Ok b → a ≡ b
same_frame a b r p q = let e : ◌≡◌ {A = Result Frame VolFault} (Ok a) (Ok b) = sym p ∙ q in cc

pub not_both : (a : Frame) (f : VolFault) (r : Result Frame VolFault) → r ≡ Ok a → r ≡ Err f → ⊥
not_both a f r p q = let e : ◌≡◌ {A = Result Frame VolFault} (Ok a) (Err f) = sym p ∙ q in absurd cc

pub same_fault : (f g : VolFault) (r : Result Frame VolFault) → r ≡ Err f → r ≡ Err g → f ≡ g
same_fault f g r p q = let e : ◌≡◌ {A = Result Frame VolFault} (Err f) (Err g) = sym p ∙ q in cc

pub made_volume : (v w : Volume) → v.len ≡ w.len → v.name ≡ w.name → v.files ≡ w.files → v ≡ w
made_volume v w p q r =
    let of : ℕ × Option Guid × List FfsFile → Volume = λ x. record { len = x.0; name = x.1; files = x.2 } in
    let same : ◌≡◌ {A = ℕ × Option Guid × List FfsFile} (v.len, v.name, v.files) (w.len, w.name, w.files) = cc in
    ap of same

pub fault_made : (f g : VolFault) → f.at ≡ g.at → f.cause ≡ g.cause → f ≡ g
fault_made f g p q =
    let of : ℕ × VolCause → VolFault = λ x. record { at = x.0; cause = x.1 } in
    let same : ◌≡◌ {A = ℕ × VolCause} (f.at, f.cause) (g.at, g.cause) = cc in
    ap of same

-- one listing
pub one_listing : (image : List ℕ) (frame : Frame) (a b : List FfsFile) → IsListing image frame a → IsListing image frame b → a ≡ b
one_listing image frame a b p q =
    let one = one_leads image frame.format frame.start p.0 q.0 p.1 q.1 16384 p.2 q.2 (omega (arith, ap length p.4, p.5)) (omega (arith, ap length q.4, q.5))
    (end_stops image frame.format _ p.1 p.3) (end_stops image frame.format _ q.1 q.3) in
    p.4 ∙ ap files_of one.0 ∙ sym q.4

-- one fault of a search
pub one_fault : (image : List ℕ) (frame : Frame) (f g : VolFault) → IsSearchFault image frame f → IsSearchFault image frame g → f ≡ g
one_fault image frame f g p q =
    let one = one_leads image frame.format frame.start p.0 q.0 f.at g.at 16384 p.1 q.1 p.2 q.2
    (fault_stops image frame.format _ f.at f.cause p.4) (fault_stops image frame.format _ g.at g.cause q.4) in
    let same : met_at image frame.format (length (files_of p.0)) f.at ≡ met_at image frame.format (length (files_of q.0)) g.at = rw (one.0, one.1) refl in
    let causes : ◌≡◌ {A = Result Item VolCause} (Err f.cause) (Err g.cause) = sym p.4 ∙ same ∙ q.4 in
    fault_made f g one.1 cc

-- not a listing and a fault
pub no_fault : (image : List ℕ) (frame : Frame) (a : List FfsFile) (f : VolFault) → IsListing image frame a → IsSearchFault image frame f → ⊥
no_fault image frame a f p q =
    let one = one_leads image frame.format frame.start p.0 q.0 p.1 f.at 16384 p.2 q.1 (omega (arith, ap length p.4, p.5)) q.2
    (end_stops image frame.format _ p.1 p.3) (fault_stops image frame.format _ f.at f.cause q.4) in
    let both : true ≡ false = sym p.3 ∙ ap (λ at. ends_at image frame.format at) one.1 ∙ q.3 in
    absurd cc

which : (r : Result Frame VolFault) → ((frame : Frame) × (r ≡ Ok frame)) ⊎ ((fault : VolFault) × (r ≡ Err fault))
which (Ok frame) = inl (frame, refl)
which (Err fault) = inr (fault, refl)

-- a volume or a fault
pub some_volume : (bytes : List ℕ) → ((volume : Volume) × IsVolume bytes volume) ⊎ ((fault : VolFault) × IsFirstFault bytes fault)
some_volume bytes = elim (which (frame_of bytes)) [
  | inr headers ↦ inr (headers.0, inl headers.1)
  | inl sound ↦
      let frame = sound.0 in
      let image = image_of bytes frame in
      elim (some_search (length image) image frame frame.start [] (omega arith) refl (omega arith)) [
        | inl listing ↦ inl (record { len = frame.len; name = frame.name; files = listing.0 }, (frame, sound.1, refl, refl, listing.1))
        | inr fault ↦ inr (fault.0, inr (frame, sound.1, fault.1))
      ]
]
