-- The answers about a state are those of its image.
use Rattle.std.proofs.Common.{◌≡◌, ℕ, zero, suc, Bool, true, false, cond, ◌||◌, List, [], ◌∷◌, ap, refl, sym, ◌∙◌, map, filter, option_map, slice_get}
use Rattle.std.specs.List.{list_any}
use Rattle.pi_base.specs.{declared.guid.Guid.Guid, Field.ReadsWhatItSpells, Guids.same_guid}
use Rattle.phys_mem.specs.declared.rom.Rom.{Rom}
use Rattle.store_model.specs.{declared.state.Entry.Entry, declared.state.Pending.Pending, StoreState.StoreState, HeapImage.heap_image}
use Rattle.store_model.specs.{Service.Descriptor.guid_at, Service.Descriptor.number_at, declared.store_handle.EntryList.EntryList}
use Rattle.store_model.specs.declared.store_handle.EntryList.TheVariants.{Ppis, Callbacks, Dispatches, Pendings}
use Rattle.store_laws.specs.Items.{items, first_address}
use Rattle.store_laws.specs.Told.{Told, list_told, queue_told, image_told, entry_said}
use Rattle.store_laws.specs.Accessors.{PpiIsTold, NthIsTold, HasIsTold, CallbackIsTold, DispatchIsTold, PendingIsTold, LookAlike, ImagesTellAll}
use Rattle.store_laws.proofs.Told.{ppis_told, callbacks_told, dispatches_told, queue_is}

-- over what a list is mapped to
get_map : {A B C : Type 0} (f : A → B) (g : B → C) (xs : List A) (n : ℕ) → option_map g (slice_get (map f xs) n) ≡ option_map (λ x. g (f x)) (slice_get xs n)
get_map f g [] n = refl
get_map f g (x ∷ xs) zero = refl
get_map f g (x ∷ xs) (suc n) = get_map f g xs n

get_only : {A B : Type 0} (f : A → B) (xs : List A) (n : ℕ) → slice_get (map f xs) n ≡ option_map f (slice_get xs n)
get_only f [] n = refl
get_only f (x ∷ xs) zero = refl
get_only f (x ∷ xs) (suc n) = get_only f xs n

filter_on : {A B : Type 0} (f : A → B) (x : A) (b : Bool) (xs : List B) (ys : List A) → xs ≡ map f ys → cond b (f x ∷ xs) xs ≡ map f (cond b (x ∷ ys) ys)
filter_on f x true xs ys e = ap (λ rest. f x ∷ rest) e
filter_on f x false xs ys e = e

filter_map : {A B : Type 0} (f : A → B) (p : B → Bool) (xs : List A) → filter p (map f xs) ≡ map f (filter (λ x. p (f x)) xs)
filter_map f p [] = refl
filter_map f p (x ∷ xs) = filter_on f x (p (f x)) (filter p (map f xs)) (filter (λ y. p (f y)) xs) (filter_map f p xs)

any_map : {A B : Type 0} (f : A → B) (p : B → Bool) (xs : List A) → list_any p (map f xs) ≡ list_any (λ x. p (f x)) xs
any_map f p [] = refl
any_map f p (x ∷ xs) = ap (λ b. p (f x) || b) (any_map f p xs)

pub ppi_is_told : ReadsWhatItSpells → PpiIsTold
ppi_is_told law s place h =
    sym (ap (λ (xs : List Told). option_map (λ (told : Told). (told.guid, told.number, told.by)) (slice_get xs place)) (ppis_told s law h) ∙ get_map (entry_said s) (λ (told : Told). (told.guid, told.number, told.by)) s.ppis place)

pub nth_is_told : ReadsWhatItSpells → NthIsTold
nth_is_told law s guid n h =
    sym (ap (λ (xs : List Told). option_map (λ (told : Told). (record { offset = told.place }, told.number)) (slice_get (filter (λ (told : Told). same_guid told.guid guid) xs) n)) (ppis_told s law h)
    ∙ ap (λ (xs : List Told). option_map (λ (told : Told). (record { offset = told.place }, told.number)) (slice_get xs n)) (filter_map (entry_said s) (λ (told : Told). same_guid told.guid guid) s.ppis)
    ∙ get_map (entry_said s) (λ (told : Told). (record { offset = told.place }, told.number)) (filter (λ (entry : Entry). same_guid (guid_at s entry.descriptor) guid) s.ppis) n)

pub has_is_told : ReadsWhatItSpells → HasIsTold
has_is_told law s guid h =
    sym (ap (λ (xs : List Told). list_any (λ (told : Told). same_guid told.guid guid) xs) (ppis_told s law h) ∙ any_map (entry_said s) (λ (told : Told). same_guid told.guid guid) s.ppis)

pub callback_is_told : ReadsWhatItSpells → CallbackIsTold
callback_is_told law s place h =
    sym (ap (λ (xs : List Told). option_map (λ (told : Told). (told.guid, told.number)) (slice_get xs place)) (callbacks_told s law h) ∙ get_map (entry_said s) (λ (told : Told). (told.guid, told.number)) s.callbacks place)

pub dispatch_is_told : ReadsWhatItSpells → DispatchIsTold
dispatch_is_told law s place h =
    sym (ap (λ (xs : List Told). option_map (λ (told : Told). (told.guid, told.number)) (slice_get xs place)) (dispatches_told s law h) ∙ get_map (entry_said s) (λ (told : Told). (told.guid, told.number)) s.dispatches place)

pub pending_is_told : ReadsWhatItSpells → PendingIsTold
pending_is_told law s place h =
    sym (ap (λ (xs : List (Guid × ℕ)). slice_get xs place) (queue_is s law h) ∙ get_only (λ (pending : Pending). (guid_at s pending.ppi, number_at s pending.descriptor)) s.pendings place)

-- two states that look alike
told_alike : (s t : StoreState) (list : EntryList) → LookAlike s t → image_told s list ≡ image_told t list
told_alike s t list h =
    ap (λ (roms : List Rom). list_told roms (heap_image s) s.base (first_address s.base (items s list))) h.roms ∙ ap (λ (x : List ℕ). list_told t.board.roms x s.base (first_address s.base (items s list))) h.image
    ∙ ap (λ n. list_told t.board.roms (heap_image t) n (first_address s.base (items s list))) h.base ∙ ap (list_told t.board.roms (heap_image t) t.base) (h.heads list)

queue_alike : (s t : StoreState) → LookAlike s t → queue_told s.board.roms (heap_image s) s.base (first_address s.base (items s Pendings)) ≡ queue_told t.board.roms (heap_image t) t.base (first_address t.base (items t Pendings))
queue_alike s t h =
    ap (λ (roms : List Rom). queue_told roms (heap_image s) s.base (first_address s.base (items s Pendings))) h.roms ∙ ap (λ (x : List ℕ). queue_told t.board.roms x s.base (first_address s.base (items s Pendings))) h.image
    ∙ ap (λ n. queue_told t.board.roms (heap_image t) n (first_address s.base (items s Pendings))) h.base ∙ ap (queue_told t.board.roms (heap_image t) t.base) (h.heads Pendings)

pub images_tell_all : ReadsWhatItSpells → ImagesTellAll
images_tell_all law s t hs ht like = record {
  ppi = λ place. ppi_is_told law s place hs ∙ ap (λ (xs : List Told). option_map (λ (told : Told). (told.guid, told.number, told.by)) (slice_get xs place)) (told_alike s t Ppis like) ∙ sym (ppi_is_told law t place ht);
  nth = λ guid n. nth_is_told law s guid n hs
      ∙ ap (λ (xs : List Told). option_map (λ (told : Told). (record { offset = told.place }, told.number)) (slice_get (filter (λ (told : Told). same_guid told.guid guid) xs) n)) (told_alike s t Ppis like) ∙ sym (nth_is_told law t guid n ht);
  has = λ guid. has_is_told law s guid hs ∙ ap (λ (xs : List Told). list_any (λ (told : Told). same_guid told.guid guid) xs) (told_alike s t Ppis like) ∙ sym (has_is_told law t guid ht);
  callback = λ place. callback_is_told law s place hs ∙ ap (λ (xs : List Told). option_map (λ (told : Told). (told.guid, told.number)) (slice_get xs place)) (told_alike s t Callbacks like) ∙ sym (callback_is_told law t place ht);
  dispatch = λ place. dispatch_is_told law s place hs ∙ ap (λ (xs : List Told). option_map (λ (told : Told). (told.guid, told.number)) (slice_get xs place)) (told_alike s t Dispatches like) ∙ sym (dispatch_is_told law t place ht);
  pending = λ place. pending_is_told law s place hs ∙ ap (λ (xs : List (Guid × ℕ)). slice_get xs place) (queue_alike s t like) ∙ sym (pending_is_told law t place ht);
}
