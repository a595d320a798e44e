-- One notification more, and where those of a protocol stand.
use Rattle.std.proofs.Common.{◌≡◌, ℕ, zero, suc, ◌<◌, ◌≤◌, ◌+◌, Bool, true, false, cond, List, [], ◌∷◌, ◌++◌, length, refl, sym, ap, ◌∙◌, subst, arith, length-append, take}
use Rattle.std.proofs.lemmas.Slice.Eq.{bytes_eq-Decides}
use Rattle.pi_base.specs.{declared.guid.Guid.Guid, Guids.same_guid}
use Rattle.guid_lists.specs.{declared.lists.GuidLists.GuidLists, Places.AreAt, Places.places}
use Rattle.guid_lists.specs.Lists.{HasInstead, Rises, list_of, with_number}
use Rattle.guid_lists.proofs.Placing.{added, alike, one_more, rises}
use Rattle.boot_model.specs.declared.driver.ProtocolNote.{ProtocolNote}
use Rattle.dxe_core.specs.Notes.{is_note}

pub past : (notes : List ProtocolNote) (guid : Guid) (place : ℕ) → length notes ≤ place → is_note notes guid place ≡ false
past [] guid place le = refl
past (x ∷ xs) guid zero le = absurd (omega (arith, le))
past (x ∷ xs) guid (suc place) le = past xs guid place (omega (arith, le))

before : (notes : List ProtocolNote) (note : ProtocolNote) (guid : Guid) (place : ℕ) → place < length notes → is_note (notes ++ note ∷ []) guid place ≡ is_note notes guid place
before [] note guid place less = absurd (omega (arith, less))
before (x ∷ xs) note guid zero less = refl
before (x ∷ xs) note guid (suc place) less = before xs note guid place (omega (arith, less))

last : (notes : List ProtocolNote) (note : ProtocolNote) (guid : Guid) → is_note (notes ++ note ∷ []) guid (length notes) ≡ same_guid note.guid guid
last [] note guid = refl
last (x ∷ xs) note guid = last xs note guid

len_more : (notes : List ProtocolNote) (note : ProtocolNote) → length (notes ++ note ∷ []) ≡ suc (length notes)
len_more notes note = let e = length-append notes (note ∷ []) in omega (arith, e)

elsewhere : (notes : List ProtocolNote) (note : ProtocolNote) (guid : Guid) (k : ℕ) → (k ≡ length notes → ⊥) → is_note (notes ++ note ∷ []) guid k ≡ is_note notes guid k
elsewhere [] note guid zero never = absurd (never refl)
elsewhere [] note guid (suc k) never = refl
elsewhere (x ∷ xs) note guid zero never = refl
elsewhere (x ∷ xs) note guid (suc k) never = elsewhere xs note guid k (λ e. never (ap suc e))

same_guids : (guid other : Guid) → same_guid guid other ≡ true → guid ≡ other
same_guids guid other h = ap (λ bytes. record { 0 = bytes }) ((bytes_eq-Decides guid.0 other.0).0 h)

placed_by : (notes : List ProtocolNote) (note : ProtocolNote) (guid : Guid) (b : Bool) → same_guid note.guid guid ≡ b
    → cond b (with_number (length notes) (places (is_note notes note.guid) (length notes))) (places (is_note notes guid) (length notes))
    ≡ places (is_note (notes ++ note ∷ []) guid) (suc (length notes))
placed_by notes note guid true e =
    let same = same_guids note.guid guid e in
    let n = length notes in
    ap (λ g. with_number n (places (is_note notes g) n)) same
    ∙ ap (with_number n) (sym (one_more (is_note notes guid) 0 n (past notes guid (0 + n) (omega arith))))
    ∙ sym (added (is_note notes guid) (is_note (notes ++ note ∷ []) guid) n 0 (suc n) (omega arith) (omega arith) (past notes guid n (omega arith)) (last notes note guid ∙ e)
    (λ k never. elsewhere notes note guid k never))
placed_by notes note guid false e =
    let n = length notes in
    let at_end : 0 + n ≡ n = omega arith in
    alike (is_note notes guid) (is_note (notes ++ note ∷ []) guid) 0 n (λ k low high. sym (before notes note guid k (omega (arith, high))))
    ∙ sym (one_more (is_note (notes ++ note ∷ []) guid) 0 n (ap (is_note (notes ++ note ∷ []) guid) at_end ∙ last notes note guid ∙ e))

-- a notification comes behind the others
pub noted : (old new : GuidLists) (notes : List ProtocolNote) (note : ProtocolNote) → AreAt old (is_note notes) (length notes)
    → HasInstead old note.guid (with_number (length notes) (list_of old note.guid)) new → AreAt new (is_note (notes ++ note ∷ [])) (length (notes ++ note ∷ []))
noted old new notes note are has guid =
    has guid
    ∙ ap (λ l. cond (same_guid note.guid guid) (with_number (length notes) l) (list_of old guid)) (are note.guid)
    ∙ ap (λ l. cond (same_guid note.guid guid) (with_number (length notes) (places (is_note notes note.guid) (length notes))) l) (are guid)
    ∙ placed_by notes note guid (same_guid note.guid guid) refl
    ∙ ap (places (is_note (notes ++ note ∷ []) guid)) (sym (len_more notes note))

pub risen : (lists : GuidLists) (notes : List ProtocolNote) (guid : Guid) → AreAt lists (is_note notes) (length notes) → Rises (list_of lists guid)
risen lists notes guid are = subst Rises (sym (are guid)) (rises (is_note notes guid) 0 (length notes))

pub taken_off : (notes : List ProtocolNote) (note : ProtocolNote) → take (length notes) (notes ++ note ∷ []) ≡ notes
taken_off [] note = refl
taken_off (x ∷ xs) note = ap (λ l. x ∷ l) (taken_off xs note)
