-- What is encoded is read again.
use Rattle.std.proofs.Common.{◌≡◌, ◌≢◌, ℕ, ◌+◌, ◌-◌, ◌%◌, ◌^◌, ◌<◌, ◌≤◌, true, false, eqb, ltb, leb, List, [], ◌∷◌, ◌++◌, length, take, drop, Option, Some, None, Ok, refl, sym, ap, ◌∙◌, arith, length-append, append_assoc, inl, inr, append-nil, take_at, drop_at, drop-drop, length-drop}
use Rattle.std.proofs.{lemmas.List.length-replicate, lemmas.List.Concat.flat_map-append, lemmas.Option.cond_some}
use Rattle.hob_codec.proofs.ReadLemmas.{reading_is}
use Rattle.std.proofs.lemmas.Bool.Decides.{nat_tests}
use Rattle.pi_base.specs.Field.{little_number, little_bytes}
use Rattle.pi_base.proofs.FieldLaws.{little_number-little_bytes}
use Rattle.hob_codec.specs.{declared.hob.Handoff.Handoff, declared.fault.HobFault.HobFault}
use Rattle.hob_codec.specs.HobValue.{HobValue, HandoffHob, AllocationHob, ResourceHob, NamedHob, VolumeHob, CpuHob, PoolHob, Volume2Hob, OtherHob, IsHob, kind_of}
use Rattle.hob_codec.specs.HobBytes.{hob_bytes, hob_len, joined, header_fields, fields_of, length_of, padding, padded_len}
use Rattle.hob_codec.specs.HobReading.{reading, padded, hob_of, kind_at, length_at, body_at, header_fault}

-- a field behind others
pub number_behind : (n at x : ℕ) (front rest : List ℕ) → length front ≡ at → x < 256 ^ n → little_number n (drop at (front ++ (little_bytes n x ++ rest))) ≡ x
number_behind n at x front rest long fits = ap (little_number n) (drop_at front (little_bytes n x ++ rest) at long) ∙ little_number-little_bytes n x rest fits

zeros_len : (n : ℕ) → length (padding n) ≡ padded_len n - n
zeros_len n = length-replicate (padded_len n - n) 0

-- the fields have the length of the table
pub fields_len : (hob : HobValue) → IsHob hob → 8 + length (joined (fields_of hob)) ≡ length_of hob
fields_len (HandoffHob h) is = refl
fields_len (AllocationHob name base len kind) is = simp length-append (omega (arith, is.0))
fields_len (ResourceHob owner kind attributes start len) is = simp length-append (omega (arith, is.0))
fields_len (NamedHob name body) is = simp length-append (omega (arith, is, zeros_len (length body)))
fields_len (VolumeHob base len) is = refl
fields_len (CpuHob memory io) is = refl
fields_len (PoolHob body) is = simp length-append (omega (arith, zeros_len (length body)))
fields_len (Volume2Hob base len volume file) is = simp length-append (omega (arith, is.2, is.3))
fields_len (OtherHob kind body) is = simp length-append (omega (arith, zeros_len (length body)))

-- numbers and a GUID behind a name
after_name : (n at x : ℕ) (name rest : List ℕ) → length name ≡ 16 → little_number n (drop at rest) ≡ x → little_number n (drop (16 + at) (name ++ rest)) ≡ x
after_name n at x name rest long h = ap (little_number n) (sym (drop-drop at 16 (name ++ rest)) ∙ ap (drop at) (drop_at name rest 16 long)) ∙ h

abbrev of : HobValue → Option HobValue
of hob = Some hob

handoff_same : (a b : Handoff) → a.boot_mode ≡ b.boot_mode → a.top ≡ b.top → a.bottom ≡ b.bottom → a.free_top ≡ b.free_top → a.free_bottom ≡ b.free_bottom → a.end ≡ b.end → a ≡ b
handoff_same a b p q r s t u =
    let made : ℕ × ℕ × ℕ × ℕ × ℕ × ℕ → Handoff = λ x. record { boot_mode = x.0; top = x.1; bottom = x.2; free_top = x.3; free_bottom = x.4; end = x.5 } in
    let same : ◌≡◌ {A = ℕ × ℕ × ℕ × ℕ × ℕ × ℕ} (a.boot_mode, a.top, a.bottom, a.free_top, a.free_bottom, a.end) (b.boot_mode, b.top, b.bottom, b.free_top, b.free_bottom, b.end) = cc in
    ap made same

handoff_read : (h : Handoff) → IsHob (HandoffHob h) → hob_of 1 (joined (fields_of (HandoffHob h))) ≡ Some (HandoffHob h)
handoff_read h is =
    let b4 = little_bytes 4 9 in
    let b8 = b4 ++ little_bytes 4 h.boot_mode in
    let b16 = b8 ++ little_bytes 8 h.top in
    let b24 = b16 ++ little_bytes 8 h.bottom in
    let b32 = b24 ++ little_bytes 8 h.free_top in
    let b40 = b32 ++ little_bytes 8 h.free_bottom in
    let r48 = little_bytes 8 h.end ++ [] in
    let r40 = little_bytes 8 h.free_bottom ++ r48 in
    let r32 = little_bytes 8 h.free_top ++ r40 in
    let r24 = little_bytes 8 h.bottom ++ r32 in
    let r16 = little_bytes 8 h.top ++ r24 in
    ap (λ (x : Handoff). of (HandoffHob x)) (handoff_same _ h
    (number_behind 4 4 h.boot_mode b4 r16 refl is.0)
    (number_behind 8 8 h.top b8 r24 refl is.1)
    (number_behind 8 16 h.bottom b16 r32 refl is.2)
    (number_behind 8 24 h.free_top b24 r40 refl is.3)
    (number_behind 8 32 h.free_bottom b32 r48 refl is.4)
    (number_behind 8 40 h.end b40 [] refl is.5))

-- a test of the length that passes
long_is : (body : List ℕ) (n : ℕ) → 8 + length body ≡ 8 + n → eqb (length body) n ≡ true
long_is body n e = grind (arith, nat_tests)

allocation_read : (name : List ℕ) (base len kind : ℕ) → IsHob (AllocationHob name base len kind) → hob_of 2 (joined (fields_of (AllocationHob name base len kind))) ≡ Some (AllocationHob name base len kind)
allocation_read name base len kind is =
    let r32 = little_bytes 4 kind ++ (0 ∷ 0 ∷ 0 ∷ 0 ∷ []) in
    let r24 = little_bytes 8 len ++ r32 in
    let r16 = little_bytes 8 base ++ r24 in
    let body = name ++ r16 in
    let long : eqb (length body) 40 ≡ true = long_is body 40 (fields_len (AllocationHob name base len kind) is) in
    let g : take 16 body ≡ name = take_at name r16 16 is.0 in
    let b : little_number 8 (drop 16 body) ≡ base = after_name 8 0 base name r16 is.0 (number_behind 8 0 base [] r24 refl is.1) in
    let l : little_number 8 (drop 24 body) ≡ len = after_name 8 8 len name r16 is.0 (number_behind 8 8 len (little_bytes 8 base) r32 refl is.2) in
    let t : little_number 4 (drop 32 body) ≡ kind = after_name 4 16 kind name r16 is.0 (number_behind 4 16 kind (little_bytes 8 base ++ little_bytes 8 len) (0 ∷ 0 ∷ 0 ∷ 0 ∷ []) refl is.3) in
    let same : ◌≡◌ {A = List ℕ × ℕ × ℕ × ℕ} (take 16 body, little_number 8 (drop 16 body), little_number 8 (drop 24 body), little_number 4 (drop 32 body)) (name, base, len, kind) = cc in
    rw long (ap (λ (x : List ℕ × ℕ × ℕ × ℕ). of (AllocationHob x.0 x.1 x.2 x.3)) same)

resource_read : (owner : List ℕ) (kind attributes start len : ℕ) → IsHob (ResourceHob owner kind attributes start len) → hob_of 3 (joined (fields_of (ResourceHob owner kind attributes start len))) ≡ Some (ResourceHob owner kind attributes start len)
resource_read owner kind attributes start len is =
    let r32 = little_bytes 8 len ++ [] in
    let r24 = little_bytes 8 start ++ r32 in
    let r20 = little_bytes 4 attributes ++ r24 in
    let r16 = little_bytes 4 kind ++ r20 in
    let body = owner ++ r16 in
    let long : eqb (length body) 40 ≡ true = long_is body 40 (fields_len (ResourceHob owner kind attributes start len) is) in
    let g : take 16 body ≡ owner = take_at owner r16 16 is.0 in
    let k : little_number 4 (drop 16 body) ≡ kind = after_name 4 0 kind owner r16 is.0 (number_behind 4 0 kind [] r20 refl is.1) in
    let a : little_number 4 (drop 20 body) ≡ attributes = after_name 4 4 attributes owner r16 is.0 (number_behind 4 4 attributes (little_bytes 4 kind) r24 refl is.2) in
    let s : little_number 8 (drop 24 body) ≡ start = after_name 8 8 start owner r16 is.0 (number_behind 8 8 start (little_bytes 4 kind ++ little_bytes 4 attributes) r32 refl is.3) in
    let l : little_number 8 (drop 32 body) ≡ len = after_name 8 16 len owner r16 is.0 (number_behind 8 16 len (little_bytes 4 kind ++ little_bytes 4 attributes ++ little_bytes 8 start) [] refl is.4) in
    let same : ◌≡◌ {A = List ℕ × ℕ × ℕ × ℕ × ℕ} (take 16 body, little_number 4 (drop 16 body), little_number 4 (drop 20 body), little_number 8 (drop 24 body), little_number 8 (drop 32 body)) (owner, kind, attributes, start, len) = cc in
    rw long (ap (λ (x : List ℕ × ℕ × ℕ × ℕ × ℕ). of (ResourceHob x.0 x.1 x.2 x.3 x.4)) same)

named_read : (name data_ : List ℕ) → IsHob (NamedHob name data_) → hob_of 4 (joined (fields_of (NamedHob name data_))) ≡ Some (padded (NamedHob name data_))
named_read name data_ is =
    let rest = data_ ++ (padding (length data_) ++ []) in
    let body = name ++ rest in
    let long : leb 16 (length body) ≡ true = let n = length-append name rest in grind (arith, nat_tests) in
    let g : take 16 body ≡ name = take_at name rest 16 is in
    let r : drop 16 body ≡ data_ ++ padding (length data_) = drop_at name rest 16 is ∙ ap (λ l. data_ ++ l) (append-nil (padding (length data_))) in
    let same : ◌≡◌ {A = List ℕ × List ℕ} (take 16 body, drop 16 body) (name, data_ ++ padding (length data_)) = cc in
    rw long (ap (λ (x : List ℕ × List ℕ). of (NamedHob x.0 x.1)) same)

volume_read : (base len : ℕ) → IsHob (VolumeHob base len) → hob_of 5 (joined (fields_of (VolumeHob base len))) ≡ Some (VolumeHob base len)
volume_read base len is =
    let r8 = little_bytes 8 len ++ [] in
    let body = little_bytes 8 base ++ r8 in
    let b : little_number 8 body ≡ base = number_behind 8 0 base [] r8 refl is.0 in
    let l : little_number 8 (drop 8 body) ≡ len = number_behind 8 8 len (little_bytes 8 base) [] refl is.1 in
    let same : ◌≡◌ {A = ℕ × ℕ} (little_number 8 body, little_number 8 (drop 8 body)) (base, len) = cc in
    ap (λ (x : ℕ × ℕ). of (VolumeHob x.0 x.1)) same

volume2_read : (base len : ℕ) (volume file : List ℕ) → IsHob (Volume2Hob base len volume file) → hob_of 9 (joined (fields_of (Volume2Hob base len volume file))) ≡ Some (Volume2Hob base len volume file)
volume2_read base len volume file is =
    let r16 = volume ++ (file ++ []) in
    let r8 = little_bytes 8 len ++ r16 in
    let body = little_bytes 8 base ++ r8 in
    let long : eqb (length body) 48 ≡ true = long_is body 48 (fields_len (Volume2Hob base len volume file) is) in
    let b : little_number 8 body ≡ base = number_behind 8 0 base [] r8 refl is.0 in
    let l : little_number 8 (drop 8 body) ≡ len = number_behind 8 8 len (little_bytes 8 base) r16 refl is.1 in
    let v : take 16 (drop 16 body) ≡ volume = take_at volume (file ++ []) 16 is.2 in
    let f : take 16 (drop 32 body) ≡ file = ap (take 16) (drop_at volume (file ++ []) 16 is.2) ∙ take_at file [] 16 is.3 in
    let same : ◌≡◌ {A = ℕ × ℕ × List ℕ × List ℕ} (little_number 8 body, little_number 8 (drop 8 body), take 16 (drop 16 body), take 16 (drop 32 body)) (base, len, volume, file) = cc in
    rw long (ap (λ (x : ℕ × ℕ × List ℕ × List ℕ). of (Volume2Hob x.0 x.1 x.2 x.3)) same)

other : (a b : ℕ) → (a ≡ b → ⊥) → eqb a b ≡ false
other a b n = let m : a ≢ b = n in grind (arith, nat_tests)

other_read : (kind : ℕ) (data_ : List ℕ) → IsHob (OtherHob kind data_) → hob_of kind (joined (fields_of (OtherHob kind data_))) ≡ Some (padded (OtherHob kind data_))
other_read kind data_ is =
    let n = is.1 in
    rw (
      other kind 1 (λ e. n (inl e)),
      other kind 2 (λ e. n (inr (inl e))),
      other kind 3 (λ e. n (inr (inr (inl e)))),
      other kind 4 (λ e. n (inr (inr (inr (inl e))))),
      other kind 5 (λ e. n (inr (inr (inr (inr (inl e)))))),
      other kind 6 (λ e. n (inr (inr (inr (inr (inr (inl e))))))),
      other kind 7 (λ e. n (inr (inr (inr (inr (inr (inr (inl e)))))))),
      other kind 9 (λ e. n (inr (inr (inr (inr (inr (inr (inr (inl e))))))))),
      other kind 65535 (λ e. n (inr (inr (inr (inr (inr (inr (inr (inr e))))))))),
    )
    (ap (λ l. of (OtherHob kind (data_ ++ l))) (append-nil (padding (length data_))))

-- the fields are those of the HOB with its body padded
pub fields_read : (hob : HobValue) → IsHob hob → hob_of (kind_of hob) (joined (fields_of hob)) ≡ Some (padded hob)
fields_read (HandoffHob h) is = handoff_read h is
fields_read (AllocationHob name base len kind) is = allocation_read name base len kind is
fields_read (ResourceHob owner kind attributes start len) is = resource_read owner kind attributes start len is
fields_read (NamedHob name body) is = named_read name body is
fields_read (VolumeHob base len) is = volume_read base len is
fields_read (CpuHob memory io) is = refl
fields_read (PoolHob body) is = ap (λ l. of (PoolHob (body ++ l))) (append-nil (padding (length body)))
fields_read (Volume2Hob base len volume file) is = volume2_read base len volume file is
fields_read (OtherHob kind body) is = other_read kind body is

pub kind_fits : (hob : HobValue) → IsHob hob → kind_of hob < 256 ^ 2
kind_fits (HandoffHob h) is = omega arith
kind_fits (AllocationHob name base len kind) is = omega arith
kind_fits (ResourceHob owner kind attributes start len) is = omega arith
kind_fits (NamedHob name body) is = omega arith
kind_fits (VolumeHob base len) is = omega arith
kind_fits (CpuHob memory io) is = omega arith
kind_fits (PoolHob body) is = omega arith
kind_fits (Volume2Hob base len volume file) is = omega arith
kind_fits (OtherHob kind body) is = omega (arith, is.0)

-- a length is a multiple of 8 that is 8 at least
pub length_whole : (hob : HobValue) → (8 ≤ length_of hob) × (length_of hob % 8 ≡ 0)
length_whole (HandoffHob h) = (omega arith, refl)
length_whole (AllocationHob name base len kind) = (omega arith, refl)
length_whole (ResourceHob owner kind attributes start len) = (omega arith, refl)
length_whole (NamedHob name body) = (omega arith, omega arith)
length_whole (VolumeHob base len) = (omega arith, refl)
length_whole (CpuHob memory io) = (omega arith, refl)
length_whole (PoolHob body) = (omega arith, omega arith)
length_whole (Volume2Hob base len volume file) = (omega arith, refl)
length_whole (OtherHob kind body) = (omega arith, omega arith)

-- a header whose length is there has no fault
sound : (bytes : List ℕ) (at len more : ℕ) → length_at bytes at ≡ len → length bytes - at ≡ len + more → 8 ≤ len → len % 8 ≡ 0 → ◌≡◌ {A = Option HobFault} None (header_fault bytes at)
sound bytes at len more is left least whole =
    let a : ltb (length bytes - at) 8 ≡ false = rw left (grind (arith, nat_tests)) in
    let b : ltb len 8 ≡ false = grind (arith, nat_tests) in
    let c : eqb (len % 8) 0 ≡ true = grind (arith, nat_tests) in
    let d : ltb (length bytes - at) len ≡ false = rw left (grind (arith, nat_tests)) in
    rw (a, is, b, c, d) refl

pub round : (hob : HobValue) (len : ℕ) (front rest : List ℕ) → IsHob hob → hob_len hob ≡ Some len
    → reading (front ++ (hob_bytes hob ++ rest)) (length front) ≡ Ok (padded hob, length front + len)
round hob len front rest is fits =
    let at = length front in
    let bytes = front ++ (hob_bytes hob ++ rest) in
    let fields = joined (fields_of hob) in
    let long = cond_some (leb (length_of hob) 65528) (length_of hob) len fits in
    let small : len < 256 ^ 2 = let t = long.0 in let e = long.1 in grind (arith, nat_tests) in
    let zeros = 0 ∷ 0 ∷ 0 ∷ 0 ∷ [] in
    let header = joined (header_fields (kind_of hob) len) in
    let all : hob_bytes hob ≡ header ++ fields = flat_map-append (λ (f : List ℕ). f) (header_fields (kind_of hob) (length_of hob)) (fields_of hob) ∙ ap (λ n. joined (header_fields (kind_of hob) n) ++ fields) long.1 in
    let there : drop at bytes ≡ header ++ (fields ++ rest) = drop_at front (hob_bytes hob ++ rest) at refl ∙ ap (λ l. l ++ rest) all ∙ append_assoc header fields rest in
    let kind : kind_of hob ≡ kind_at bytes at = sym (ap (little_number 2) there ∙ number_behind 2 0 (kind_of hob) [] (little_bytes 2 len ++ (zeros ++ (fields ++ rest))) refl (kind_fits hob is)) in
    let length_is : length_at bytes at ≡ len = ap (little_number 2) (sym (drop-drop 2 at bytes) ∙ ap (drop 2) there) ∙ number_behind 2 2 len (little_bytes 2 (kind_of hob)) (zeros ++ (fields ++ rest)) refl small in
    let count : 8 + length fields ≡ len = fields_len hob is ∙ long.1 in
    let body : fields ≡ body_at bytes at =
    sym (ap (λ n. take (n - 8) (drop (at + 8) bytes)) length_is ∙ ap (take (len - 8)) (sym (drop-drop 8 at bytes) ∙ ap (drop 8) there) ∙ take_at fields rest (len - 8) (omega arith)) in
    let left : length bytes - at ≡ len + length rest = sym (length-drop at bytes) ∙ ap length there ∙ omega (arith, length-append fields rest) in
    let whole = length_whole hob in
    let rest_of : len % 8 ≡ 0 = sym (ap (λ n. n % 8) long.1) ∙ whole.1 in
    reading_is bytes at (kind_of hob) len fields (Some (padded hob)) (sound bytes at len (length rest) length_is left (omega (arith, long.1, whole.0)) rest_of) kind (sym length_is) body (sym (fields_read hob is))
