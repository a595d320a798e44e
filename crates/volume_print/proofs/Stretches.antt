-- The pads that fill a stretch, one after the other.
use Rattle.std.proofs.Common.{◌≡◌, ℕ, suc, ◌-◌, ◌/◌, ◌<◌, ◌≤◌, false, cond, List, [], ◌∷◌, ◌++◌, length, map, take, drop, flat_map, sym, ap, ◌∙◌, append_assoc, arith, append-nil, length-drop, nat_lt, true, ◌&&◌}
use Rattle.std.proofs.lemmas.Bool.Decides.{nat_tests}
use Rattle.pi_base.specs.{declared.guid.Guid.Guid, Guids.guid_at}
use Rattle.fv_volume.specs.{declared.build.attributes.FileAttributes.FileAttributes, Attributes.plain_attributes}
use Rattle.fv_volume.specs.declared.build.new_file.NewFile.{NewFile}
use Rattle.volume_print.specs.Places.{pad_of, pieces, pads_in}
use Rattle.volume_print.specs.Spelling.{are_erased, head_line, body_line, pad_line, pad_text}

room : (n : ℕ) → 24 ≤ n → nat_lt n 24 ≡ false
room n long = grind (arith, nat_tests)

-- one for the first long piece
first_pad : (stretch : List ℕ) → 8388632 ≤ length stretch → pads_in stretch ≡ pad_of (take 8388608 stretch) ∷ pads_in (drop 8388608 stretch)
first_pad stretch long =
    let rest = drop 8388608 stretch in
    let less : length rest ≡ length stretch - 8388608 = length-drop 8388608 stretch in
    let here = room (length stretch) (omega (arith, long)) in
    let there = room (length rest) (omega (arith, long, less)) in
    let count : (length stretch - 24) / 8388608 ≡ suc ((length rest - 24) / 8388608) = omega (arith, long, less) in
    ap (λ b. cond b [] (map pad_of (pieces ((length stretch - 24) / 8388608) stretch))) here ∙ ap (λ n. map pad_of (pieces n stretch)) count
    ∙ sym (ap (λ b. pad_of (take 8388608 stretch) ∷ cond b [] (map pad_of (pieces ((length rest - 24) / 8388608) rest))) there)

-- one for what is left
last_pad : (stretch : List ℕ) → 24 ≤ length stretch → length stretch < 8388632 → pads_in stretch ≡ pad_of stretch ∷ []
last_pad stretch least short =
    let here = room (length stretch) least in
    let count : (length stretch - 24) / 8388608 ≡ 0 = omega (arith, least, short) in
    ap (λ b. cond b [] (map pad_of (pieces ((length stretch - 24) / 8388608) stretch))) here ∙ ap (λ n. map pad_of (pieces n stretch)) count

abbrev texts : List ℕ → List ℕ
texts stretch = flat_map pad_text (pads_in stretch)

-- the pads of what is left, behind one that was told
pub pads_go : (old now new stretch rest piece behind : List ℕ) → piece ≡ take 8388608 rest → behind ≡ drop 8388608 rest → 8388632 ≤ length rest
    → now ++ flat_map pad_text (pads_in rest) ≡ old ++ flat_map pad_text (pads_in stretch) → new ≡ now ++ pad_text (pad_of piece)
    → new ++ flat_map pad_text (pads_in behind) ≡ old ++ flat_map pad_text (pads_in stretch)
pads_go old now new stretch rest piece behind first others long told grown =
    let parts : pads_in rest ≡ pad_of piece ∷ pads_in behind =
    first_pad rest long ∙ ap (λ (p : List ℕ). pad_of p ∷ pads_in (drop 8388608 rest)) (sym first) ∙ ap (λ (b : List ℕ). pad_of piece ∷ pads_in b) (sym others) in
    ap (λ x. x ++ texts behind) grown ∙ append_assoc now (pad_text (pad_of piece)) (texts behind) ∙ ap (λ (ps : List NewFile). now ++ flat_map pad_text ps) (sym parts) ∙ told

-- the last pad was told
pub pads_end : (old now new stretch rest : List ℕ) → 24 ≤ length rest → length rest < 8388632 → now ++ flat_map pad_text (pads_in rest) ≡ old ++ flat_map pad_text (pads_in stretch)
    → new ≡ now ++ pad_text (pad_of rest) → new ≡ old ++ flat_map pad_text (pads_in stretch)
pads_end old now new stretch rest least short told grown =
    grown ∙ ap (λ x. now ++ x) (sym (append-nil (pad_text (pad_of rest)))) ∙ ap (λ (ps : List NewFile). now ++ flat_map pad_text ps) (sym (last_pad rest least short)) ∙ told

-- a pad was told by its name and its body
pub pad_put : (piece body old mid new : List ℕ) (name : Guid) (attributes : FileAttributes) → name ≡ guid_at piece 0 → body ≡ drop 24 piece → attributes ≡ plain_attributes
    → (are_erased name.0 && are_erased body) ≡ false → mid ≡ old ++ head_line 240 name attributes → new ≡ mid ++ body_line body → new ≡ old ++ pad_text (pad_of piece)
pad_put piece body old mid new name attributes name_is body_is plain other head grown =
    let there = guid_at piece 0 in
    let rest = drop 24 piece in
    let test : (are_erased there.0 && are_erased rest) ≡ false =
    sym (ap (λ (g : Guid). are_erased g.0 && are_erased body) name_is ∙ ap (λ xs. are_erased there.0 && are_erased xs) body_is) ∙ other in
    grown ∙ ap (λ x. x ++ body_line body) head ∙ append_assoc old (head_line 240 name attributes) (body_line body)
    ∙ ap (λ (g : Guid). old ++ (head_line 240 g attributes ++ body_line body)) name_is ∙ ap (λ a. old ++ (head_line 240 there a ++ body_line body)) plain
    ∙ ap (λ xs. old ++ (head_line 240 there plain_attributes ++ body_line xs)) body_is
    ∙ ap (λ t. old ++ cond t (pad_line (length rest)) (head_line 240 there plain_attributes ++ body_line rest)) (sym test)

-- a pad that looks erased was told by its length
pub erased_put : (piece body old new : List ℕ) (name : Guid) → name ≡ guid_at piece 0 → body ≡ drop 24 piece
    → (are_erased name.0 && are_erased body) ≡ true → new ≡ old ++ pad_line (length body) → new ≡ old ++ pad_text (pad_of piece)
erased_put piece body old new name name_is body_is erased grown =
    let there = guid_at piece 0 in
    let rest = drop 24 piece in
    let test : (are_erased there.0 && are_erased rest) ≡ true =
    sym (ap (λ (g : Guid). are_erased g.0 && are_erased body) name_is ∙ ap (λ xs. are_erased there.0 && are_erased xs) body_is) ∙ erased in
    grown ∙ ap (λ xs. old ++ pad_line (length xs)) body_is
    ∙ ap (λ t. old ++ cond t (pad_line (length rest)) (head_line 240 there plain_attributes ++ body_line rest)) (sym test)
