-- A HOB of a script's action is one that scripts make, as long as its fields.
use Rattle.std.proofs.Common.{◌≡◌, ℕ, ◌+◌, ◌-◌, ◌≤◌, ◌==◌, Bool, true, false, cond, List, length, drop, arith, refl, ap, subst, ◌∙◌, Some, None, length-append, length-drop, length-take}
use Rattle.std.proofs.{lemmas.List.length-replicate, lemmas.Bool.Decides.nat_tests}
use Rattle.hob_codec.specs.HobValue.{HobValue, ResourceHob, NamedHob, VolumeHob, CpuHob, Volume2Hob}
use Rattle.hob_codec.specs.HobBytes.{length_of, padded_len, padding}
use Rattle.hob_codec.specs.HobReading.{hob_of}
use Rattle.pi_base.specs.Guids.{guid_at}
use Rattle.act_code.specs.Format.{is_hob, is_within}
use Rattle.store_model.specs.{StoreState.hob_len, StoreCall.IsScriptHob, Service.Hob.hob_entry}

-- a HOB as a script makes it
pub record IsMade (hob : HobValue) : Type 0 where
  pub script : IsScriptHob hob
  pub len : hob_len (hob_entry hob) ≡ length_of hob

whole : (at : ℕ) (body : List ℕ) → at + 16 ≤ length body → length (guid_at body at).0 ≡ 16
whole at body le =
    let dropped : length (drop at body) ≡ length body - at = length-drop at body in
    let taken = length-take 16 (drop at body) in omega (arith, dropped, taken, le)

zeros_len : (n : ℕ) → length (padding n) ≡ padded_len n - n
zeros_len n = let zero : ℕ = 0 in length-replicate (padded_len n - n) zero

resource : (owner : List ℕ) (kind attributes start len : ℕ) → length owner ≡ 16 → IsMade (ResourceHob owner kind attributes start len)
resource owner kind attributes start len is = record { script = tt; len = simp length-append (omega (arith, is)) }

named : (name body : List ℕ) → length name ≡ 16 → length body ≤ 1024 → IsMade (NamedHob name body)
named name body is few = record { script = omega (arith, few); len = simp length-append (omega (arith, is, zeros_len (length body))) }

volume : (base len : ℕ) → IsMade (VolumeHob base len)
volume base len = record { script = tt; len = refl }

cpu : (memory io : ℕ) → IsMade (CpuHob memory io)
cpu memory io = record { script = tt; len = refl }

volume2 : (base len : ℕ) (name file : List ℕ) → length name ≡ 16 → length file ≡ 16 → IsMade (Volume2Hob base len name file)
volume2 base len name file is also = record { script = tt; len = simp length-append (omega (arith, is, also)) }

-- what is there where a test holds
only : (b : Bool) (own hob : HobValue) → (b ≡ true → IsMade own) → Some hob ≡ cond b (Some own) None → IsMade hob
only true own hob p e = let same : own ≡ hob = cc in subst IsMade same (p refl)
only false own hob p e = cc

of_kind : (kind n : ℕ) (body : List ℕ) (hob : HobValue) → (kind == n) ≡ true → Some hob ≡ hob_of kind body → Some hob ≡ hob_of n body
of_kind kind n body hob t e = let same : kind ≡ n = grind (arith, nat_tests, t) in e ∙ ap (λ k. hob_of k body) same

long_is : (body : List ℕ) (n : ℕ) → (length body == n) ≡ true → length body ≡ n
long_is body n e = grind (arith, nat_tests, e)

named_of : (body : List ℕ) → is_within 16 1024 (length body) ≡ true → IsMade (NamedHob (guid_at body 0).0 (drop 16 body))
named_of body h =
    let low : 16 ≤ length body = grind (arith, nat_tests, h) in
    let high : length body ≤ 1024 = grind (arith, nat_tests, h) in
    let len : length (drop 16 body) ≡ length body - 16 = length-drop 16 body in
    named (guid_at body 0).0 (drop 16 body) (whole 0 body (omega (arith, low))) (omega (arith, high, len))

by_kind : (kind : ℕ) (body : List ℕ) (hob : HobValue) (a b c d e : Bool) → (kind == 3) ≡ a → (kind == 4) ≡ b → (kind == 5) ≡ c → (kind == 6) ≡ d → (kind == 9) ≡ e
    → cond a (length body == 40) (cond b (is_within 16 1024 (length body)) (cond c (length body == 16) (cond d (length body == 8) (cond e (length body == 48) false)))) ≡ true
    → Some hob ≡ hob_of kind body → IsMade hob
by_kind kind body hob true b c d e ka kb kc kd ke h is =
    let long = long_is body 40 h in only (length body == 40) _ hob (λ _. resource _ _ _ _ _ (whole 0 body (omega (arith, long)))) (of_kind kind 3 body hob ka is)
by_kind kind body hob false true c d e ka kb kc kd ke h is = only _ _ hob (λ _. named_of body h) (of_kind kind 4 body hob kb is)
by_kind kind body hob false false true d e ka kb kc kd ke h is = only (length body == 16) _ hob (λ _. volume _ _) (of_kind kind 5 body hob kc is)
by_kind kind body hob false false false true e ka kb kc kd ke h is = only (length body == 8) _ hob (λ _. cpu _ _) (of_kind kind 6 body hob kd is)
by_kind kind body hob false false false false true ka kb kc kd ke h is =
    let long = long_is body 48 h in
    only (length body == 48) _ hob (λ _. volume2 _ _ _ _ (whole 16 body (omega (arith, long))) (whole 32 body (omega (arith, long)))) (of_kind kind 9 body hob ke is)
by_kind kind body hob false false false false false ka kb kc kd ke h is = cc

pub script_hob : (kind : ℕ) (body : List ℕ) (hob : HobValue) → is_hob kind (length body) ≡ true → Some hob ≡ hob_of kind body → IsMade hob
script_hob kind body hob h is = by_kind kind body hob (kind == 3) (kind == 4) (kind == 5) (kind == 6) (kind == 9) refl refl refl refl refl h is
