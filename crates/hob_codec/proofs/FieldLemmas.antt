-- Fields one after another.
use Rattle.std.proofs.Common.{◌≡◌, ℕ, ◌+◌, ◌<◌, ◌≤◌, List, [], ◌∷◌, ◌++◌, length, take, drop, get_or, sym, ap, ◌∙◌, arith, length-append, take-append-drop, append_assoc, Bor, Some, leb, take_all, append-nil}
use Rattle.std.proofs.{lemmas.Option.cond_some, lemmas.List.take_more, lemmas.List.Concat.flat_map-append}
use Rattle.hob_codec.specs.{HobValue.HobValue, HobValue.kind_of, FieldView.all_bytes}
use Rattle.hob_codec.specs.HobBytes.{hob_bytes, hob_len, joined, header_fields, fields_of, length_of}

-- no slice
abbrev pub nothing : Bor (List ℕ)
nothing = record { ref_ptr = (0, 0); now = [] }

-- one field more
pub all_more : (fields : List (Bor (List ℕ))) (i : ℕ) → i < length fields → all_bytes (take (i + 1) fields) ≡ all_bytes (take i fields) ++ (get_or fields i nothing).now
all_more fields i within =
    let field = get_or fields i nothing in
    ap all_bytes (take_more fields i nothing within) ∙ flat_map-append (λ (f : Bor (List ℕ)). f.now) (take i fields) (field ∷ []) ∙ ap (λ l. all_bytes (take i fields) ++ l) (append-nil field.now)

-- it has room
pub all_room : (fields : List (Bor (List ℕ))) (i : ℕ) → i < length fields → length (all_bytes (take i fields)) + length (get_or fields i nothing).now ≤ length (all_bytes fields)
all_room fields i within =
    let field = get_or fields i nothing in
    let whole : all_bytes fields ≡ all_bytes (take (i + 1) fields) ++ all_bytes (drop (i + 1) fields) =
    ap all_bytes (sym (take-append-drop (i + 1) fields)) ∙ flat_map-append (λ (f : Bor (List ℕ)). f.now) (take (i + 1) fields) (drop (i + 1) fields) in
    omega (arith, ap length whole, length-append (all_bytes (take (i + 1) fields)) (all_bytes (drop (i + 1) fields)), ap length (all_more fields i within), length-append (all_bytes (take i fields)) field.now)

-- fields that fill what stands behind the header
pub behind : (old new bytes : List ℕ) → take (8 + length bytes) new ≡ take 8 old ++ bytes → 8 + length bytes ≡ length new → new ≡ take 8 old ++ bytes
behind old new bytes written full = sym (take_all (8 + length bytes) new (omega arith)) ∙ written

-- a body and its zeros to the end
pub padded_is : (at : ℕ) (old mid new body zeros : List ℕ) → take (at + length body + length zeros) new ≡ take (at + length body) mid ++ zeros → take (at + length body) mid ≡ take at old ++ body
    → at + length body + length zeros ≡ length new → new ≡ take at old ++ (body ++ zeros)
padded_is at old mid new body zeros h k full =
    sym (take_all (at + length body + length zeros) new (omega arith)) ∙ h ∙ ap (λ l. l ++ zeros) k ∙ append_assoc (take at old) body zeros

-- a name, and what follows it
pub named_is : (old mid new name body zeros : List ℕ) → new ≡ take 24 mid ++ (body ++ zeros) → take (8 + length name) mid ≡ take 8 old ++ name → length name ≡ 16
    → new ≡ take 8 old ++ (name ++ (body ++ (zeros ++ [])))
named_is old mid new name body zeros h k long =
    let at : 8 + length name ≡ 24 = omega arith in
    h ∙ ap (λ l. l ++ (body ++ zeros)) (ap (λ n. take n mid) (sym at) ∙ k) ∙ append_assoc (take 8 old) name (body ++ zeros) ∙ ap (λ l. take 8 old ++ (name ++ (body ++ l))) (sym (append-nil zeros))

-- the header and the fields are all bytes
pub encoded_is : (hob : HobValue) (kind len : ℕ) (mid new : List ℕ) → hob_len hob ≡ Some len → kind ≡ kind_of hob → take 8 mid ≡ joined (header_fields kind len) → new ≡ take 8 mid ++ joined (fields_of hob) → new ≡ hob_bytes hob
encoded_is hob kind len mid new fits k header body =
    let long = (cond_some (leb (length_of hob) 65528) (length_of hob) len fits).1 in
    let fields : take 8 mid ≡ joined (header_fields (kind_of hob) (length_of hob)) = header ∙ ap (λ n. joined (header_fields n len)) k ∙ ap (λ n. joined (header_fields (kind_of hob) n)) (sym long) in
    body ∙ ap (λ l. l ++ joined (fields_of hob)) fields ∙ sym (flat_map-append (λ (f : List ℕ). f) (header_fields (kind_of hob) (length_of hob)) (fields_of hob))
