-- Rooms of files with one more, and places that stand still at 2^64 - 1.
use Rattle.std.proofs.Common.{◌≡◌, inl, inr, ℕ, ◌+◌, ◌-◌, ◌<◌, ◌≤◌, Bool, true, false, cond, List, [], ◌∷◌, ◌++◌, length, map, take, drop, get_or, flat_map, refl, sym, ap, ◌∙◌, append_assoc, arith, append-nil, length-take-le, length-drop, nat_lt}
use Rattle.std.proofs.lemmas.Bool.{cases_lt}
use Rattle.fv_volume.specs.{declared.file.FfsFile.FfsFile, Frame.aligned, declared.build.file_system.FileSystem.FileSystem}
use Rattle.fv_volume.specs.{declared.build.new_file.NewFile.NewFile, Files.file_size, Reading.AreEach, Placing.gap}
use Rattle.fv_volume.specs.{Sections.section_size, Sections.body_bytes, declared.sections.section.Section.Section, Stream.AreInside}
use Rattle.fv_volume.proofs.Sizes.{saturated, size_of, length-body_more}
use Rattle.volume_print.specs.{Description.section_in, Finding.held, Spelling.pad_text, Spelling.with_pads}
use Rattle.volume_print.proofs.Lists.{map_more}
use Rattle.volume_print.specs.Places.{Room, room_of, rooms, between, pads_in, stands, behind, behind_all, pads_before}

-- as many
pub each_long : {A B : Type 0} (Is : A → B → Type 0) (xs : List A) (ys : List B) → AreEach Is xs ys → length xs ≡ length ys
each_long Is [] [] all = refl
each_long Is [] (y ∷ ys) all = absurd all
each_long Is (x ∷ xs) [] all = absurd all
each_long Is (x ∷ xs) (y ∷ ys) all = omega (arith, each_long Is xs ys all.1)

pub length-rooms : (Is : FfsFile → NewFile → Type 0) (file_system : FileSystem) (found : List FfsFile) (files : List NewFile) → AreEach Is found files → length (rooms file_system found files) ≡ length files
length-rooms Is file_system [] [] all = refl
length-rooms Is file_system [] (file ∷ files) all = absurd all
length-rooms Is file_system (one ∷ found) [] all = absurd all
length-rooms Is file_system (one ∷ found) (file ∷ files) all = omega (arith, length-rooms Is file_system found files all.1)

pub length-pads : (image : List ℕ) (from : ℕ) (all : List Room) → length (pads_before image from all) ≡ length all
length-pads image from [] = refl
length-pads image from (room ∷ all) = omega (arith, length-pads image (behind from room) all)

-- one more
pub rooms_more : (Is : FfsFile → NewFile → Type 0) (file_system : FileSystem) (found : List FfsFile) (files : List NewFile) (one : FfsFile) (file : NewFile) → AreEach Is found files
    → rooms file_system (found ++ one ∷ []) (files ++ file ∷ []) ≡ rooms file_system found files ++ room_of file_system one file ∷ []
rooms_more Is file_system [] [] one file all = refl
rooms_more Is file_system [] (f ∷ files) one file all = absurd all
rooms_more Is file_system (o ∷ found) [] one file all = absurd all
rooms_more Is file_system (o ∷ found) (f ∷ files) one file all = ap (λ (rs : List Room). room_of file_system o f ∷ rs) (rooms_more Is file_system found files one file all.1)

pub behind_more : (from : ℕ) (all : List Room) (room : Room) → behind_all from (all ++ room ∷ []) ≡ behind (behind_all from all) room
behind_more from [] room = refl
behind_more from (first ∷ all) room = behind_more (behind from first) all room

pub pads_more : (image : List ℕ) (from : ℕ) (all : List Room) (room : Room)
    → pads_before image from (all ++ room ∷ []) ≡ pads_before image from all ++ pads_in (between image (behind_all from all) room.at) ∷ []
pads_more image from [] room = refl
pads_more image from (first ∷ all) room = ap (λ (ps : List (List NewFile)). pads_in (between image from first.at) ∷ ps) (pads_more image (behind from first) all room)

pub with_more : (all : List (List NewFile)) (texts : List (List ℕ)) (pads : List NewFile) (text : List ℕ) → length all ≡ length texts
    → with_pads (all ++ pads ∷ []) (texts ++ text ∷ []) ≡ with_pads all texts ++ (flat_map pad_text pads ++ text)
with_more [] [] pads text long = ap (λ t. flat_map pad_text pads ++ t) (append-nil text)
with_more [] (t ∷ texts) pads text long = absurd (omega (arith, long))
with_more (p ∷ all) [] pads text long = absurd (omega (arith, long))
with_more (p ∷ all) (t ∷ texts) pads text long =
    let lines = flat_map pad_text p in
    let last = flat_map pad_text pads ++ text in
    ap (λ (x : List ℕ). lines ++ (t ++ x)) (with_more all texts pads text (omega (arith, long)))
    ∙ ap (λ (x : List ℕ). lines ++ x) (sym (append_assoc t (with_pads all texts) last)) ∙ sym (append_assoc lines (t ++ with_pads all texts) last)

-- places that stand still
pub stretch_held : (at from place : ℕ) → at ≤ 18446744073709551615 → from ≡ held place → at - from ≡ at - place
stretch_held at from place fits is = omega (arith, fits, is)

pub between_held : (image : List ℕ) (at from place : ℕ) → at ≤ 18446744073709551615 → from ≡ held place → between image from at ≡ between image place at
between_held image at from place fits is =
    elim (cases_lt 18446744073709551615 place) [
      | inl past ↦
          let none : at - from ≡ 0 = omega (arith, past, fits, is) in
          let neither : at - place ≡ 0 = omega (arith, past, fits) in
          ap (λ n. take n (drop from image)) none ∙ sym (ap (λ n. take n (drop place image)) neither)
      | inr within ↦ ap (λ n. between image n at) (omega (arith, within, is))
    ]

by_test : (test : Bool) (from place at : ℕ) → at ≤ 18446744073709551615 → from ≡ held place → cond test from at ≡ held (cond test place at)
by_test true from place at fits is = is
by_test false from place at fits is = omega (arith, fits)

stands_held : (from place at : ℕ) → at ≤ 18446744073709551615 → from ≡ held place → stands from at ≡ held (stands place at)
stands_held from place at fits is =
    ap (λ n. cond (nat_lt n 24) from at) (stretch_held at from place fits is) ∙ by_test (nat_lt (at - place) 24) from place at fits is

front_held : (place len : ℕ) → held (aligned (held place + len)) ≡ held (aligned (place + len))
front_held place len = elim (cases_lt 18446744073709551615 place) [ inl past ↦ omega arith | inr within ↦ ap (λ n. held (aligned (n + len))) (omega arith) ]

back_held : (place len : ℕ) → held (aligned (place + held len)) ≡ held (aligned (place + len))
back_held place len = elim (cases_lt 18446744073709551615 len) [ inl past ↦ omega arith | inr within ↦ ap (λ n. held (aligned (place + n))) (omega arith) ]

pub behind_held : (from place : ℕ) (room : Room) → room.at ≤ 18446744073709551615 → from ≡ held place → held (behind from room) ≡ held (behind place room)
behind_held from place room fits is =
    ap (λ n. held (aligned (n + room.len))) (stands_held from place room.at fits is) ∙ front_held (stands place room.at) room.len

pub next_held : (file_system : FileSystem) (place body len : ℕ) → len ≡ held body → held (aligned (place + held (file_size file_system len))) ≡ held (aligned (place + file_size file_system body))
next_held file_system place body len is =
    ap (λ n. held (aligned (place + held (file_size file_system n)))) is ∙ ap (λ n. held (aligned (place + n))) (size_of file_system body 18446744073709551615 (omega arith))
    ∙ back_held place (file_size file_system body)

-- a section's body is as long as its header says
section_fits : (stream : List ℕ) (section : Section) → section.body_at + section.body_len ≤ length stream → length (section_in stream section).body ≡ section.body_len
section_fits stream section inside = length-take-le section.body_len (drop section.body_at stream) (omega (arith, length-drop section.body_at stream, inside))

-- the bytes of sections so far, and of one more
pub sections_longer : (file_system : FileSystem) (stream : List ℕ) (all : List Section) (i : ℕ) (d : Section) (end place size next : ℕ) → i < length all → AreInside stream all
    → end ≡ held (length (body_bytes file_system (map (section_in stream) (take i all)))) → place ≡ held (end + gap 4 end) → size ≡ held (section_size file_system (get_or all i d).body_len)
    → next ≡ held (place + size) → next ≡ held (length (body_bytes file_system (map (section_in stream) (take (i + 1) all))))
sections_longer file_system stream all i d end place size next within inside e p s n =
    let one = get_or all i d in
    let before = map (section_in stream) (take i all) in
    let body : length (section_in stream one).body ≡ one.body_len = section_fits stream one (inside i d within) in
    let more : length (body_bytes file_system (map (section_in stream) (take (i + 1) all)))
    ≡ length (body_bytes file_system before) + gap 4 (length (body_bytes file_system before)) + section_size file_system one.body_len =
    ap (λ xs. length (body_bytes file_system xs)) (map_more (section_in stream) all i d within) ∙ length-body_more file_system before (section_in stream one)
    ∙ ap (λ m. length (body_bytes file_system before) + gap 4 (length (body_bytes file_system before)) + section_size file_system m) body in
    saturated 18446744073709551615 (length (body_bytes file_system before)) end (gap 4) place size (section_size file_system one.body_len) next e p s n ∙ ap held (sym more)
