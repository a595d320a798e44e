-- The HOBs that calls make are HOBs of a state: pools, descriptors, pages, and those of scripts.
use Rattle.std.proofs.Common.{◌≡◌, ◌≢◌, ℕ, ◌+◌, ◌-◌, ◌*◌, ◌/◌, ◌%◌, ◌≤◌, ◌<◌, ◌^◌, List, length, replicate, arith, refl, ap, subst, ◌∙◌, Option, Some, None}
use Rattle.std.proofs.lemmas.List.{length-replicate}
use Rattle.hob_codec.specs.declared.kind.TheConstants.{HANDOFF, ALLOCATION, POOL, END}
use Rattle.hob_codec.specs.HobValue.{HobValue, HandoffHob, AllocationHob, ResourceHob, NamedHob, VolumeHob, CpuHob, PoolHob, Volume2Hob, OtherHob}
use Rattle.hob_codec.specs.HobValue as V
use Rattle.hob_codec.specs.HobBytes.{length_of}
use Rattle.store_model.specs.declared.state.Body.TheVariants.{Bytes, Descriptor}
use Rattle.store_model.specs.{declared.state.DescriptorBody.DescriptorBody, StoreCall.IsScriptHob, Service.Pool.most_pool}
use Rattle.store_model.specs.StoreState.{Board, body_len, descriptor_len, header_len, hob_len, most_hob, pool_of, rounded}
use Rattle.store_model.specs.StateFacts.{HasTypesLength, IsGuidOf, IsHobEntry, IsNumberOf}
use Rattle.store_model.specs.{Service.Hob.hob_entry, Service.Memory.allocation_hob, Service.Memory.page_len}
use Rattle.store_laws.specs.Keeping.{IsScripted, IsWord}

-- a pool and pages are of types whose body has any length
pub of_pool : (len : ℕ) → HasTypesLength POOL len
of_pool len = record {
  resource = λ e. absurd (omega (arith, e));
  named = λ e. absurd (omega (arith, e));
  volume = λ e. absurd (omega (arith, e));
  cpu = λ e. absurd (omega (arith, e));
  volume2 = λ e. absurd (omega (arith, e));
}

of_pages : (len : ℕ) → HasTypesLength ALLOCATION len
of_pages len = record {
  resource = λ e. absurd (omega (arith, e));
  named = λ e. absurd (omega (arith, e));
  volume = λ e. absurd (omega (arith, e));
  cpu = λ e. absurd (omega (arith, e));
  volume2 = λ e. absurd (omega (arith, e));
}

-- zeros in a pool
abbrev pub zeros : ℕ → List ℕ
zeros size = let zero : ℕ = 0 in replicate (rounded size) zero

zeros_len : (size : ℕ) → length (zeros size) ≡ rounded size
zeros_len size = let zero : ℕ = 0 in length-replicate (rounded size) zero

pub zeros_need : (size : ℕ) → hob_len (pool_of (Bytes (zeros size))) ≡ rounded size + 8
zeros_need size = let len = zeros_len size in omega (arith, len)

eight_more : (n : ℕ) → (8 + n * 8) % 8 ≡ 0
eight_more n = omega arith

pub pool_entry : (board : Board) (taken size : ℕ) → size ≤ most_pool → IsHobEntry board taken (pool_of (Bytes (zeros size)))
pool_entry board taken size le =
    let len = zeros_len size in
    record {
      kind = omega arith;
      not_handoff = λ e. absurd (omega (arith, e));
      not_end = λ e. absurd (omega (arith, e));
      len = omega (arith, len, le);
      aligned = ap (λ n. (8 + n) % 8) len ∙ eight_more ((size + 7) / 8);
      typed = of_pool (length (zeros size));
      body = λ e. absurd (omega (arith, e));
    }

-- a descriptor
descriptor_most : (stands : Option ℕ) → header_len + descriptor_len stands ≤ most_hob
descriptor_most None = omega arith
descriptor_most (Some address) = omega arith

descriptor_aligned : (stands : Option ℕ) → (header_len + descriptor_len stands) % 8 ≡ 0
descriptor_aligned None = refl
descriptor_aligned (Some address) = refl

pub descriptor_entry : (board : Board) (taken : ℕ) (d : DescriptorBody) → IsGuidOf board d d.stands → IsNumberOf d.kind d.number → IsHobEntry board taken (pool_of (Descriptor d))
descriptor_entry board taken d guid number = record {
  kind = omega arith;
  not_handoff = λ e. absurd (omega (arith, e));
  not_end = λ e. absurd (omega (arith, e));
  len = descriptor_most d.stands;
  aligned = descriptor_aligned d.stands;
  typed = of_pool (descriptor_len d.stands);
  body = (refl, guid, number);
}

-- pages
pub pages_entry : (board : Board) (memory_type len taken : ℕ) → IsWord memory_type → len < 2 ^ 64 → IsHobEntry board taken (allocation_hob memory_type len taken)
pages_entry board memory_type len taken word fits = record {
  kind = omega arith;
  not_handoff = λ e. absurd (omega (arith, e));
  not_end = λ e. absurd (omega (arith, e));
  len = omega arith;
  aligned = refl;
  typed = of_pages 40;
  body = (refl, record { memory_type = word; len = fits; below = omega arith });
}

pub few_pages : (count : ℕ) → IsWord count → page_len * count < 2 ^ 64
few_pages count word = omega (arith, word)

-- the HOBs of scripts, by their types and lengths
record IsScriptKind (hob : HobValue) : Type 0 where
  kind : V.kind_of hob < 2 ^ 16
  not_handoff : V.kind_of hob ≢ HANDOFF
  not_end : V.kind_of hob ≢ END
  not_pages : V.kind_of hob ≢ ALLOCATION
  most : length_of hob ≤ most_hob
  aligned : length_of hob % 8 ≡ 0
  typed : HasTypesLength (V.kind_of hob) (length_of hob - header_len)

named_aligned : (n : ℕ) → (24 + n * 8) % 8 ≡ 0
named_aligned n = omega arith

script_kind : (hob : HobValue) → IsScriptHob hob → IsScriptKind hob
script_kind (HandoffHob handoff) h = absurd h
script_kind (AllocationHob name base len memory_type) h = absurd h
script_kind (ResourceHob owner kind attributes start len) h = record {
  kind = omega arith;
  not_handoff = λ e. absurd (omega (arith, e));
  not_end = λ e. absurd (omega (arith, e));
  not_pages = λ e. absurd (omega (arith, e));
  most = omega arith;
  aligned = refl;
  typed = record {
    resource = λ e. refl;
    named = λ e. absurd (omega (arith, e));
    volume = λ e. absurd (omega (arith, e));
    cpu = λ e. absurd (omega (arith, e));
    volume2 = λ e. absurd (omega (arith, e));
  };
}
script_kind (NamedHob name body) h = record {
  kind = omega arith;
  not_handoff = λ e. absurd (omega (arith, e));
  not_end = λ e. absurd (omega (arith, e));
  not_pages = λ e. absurd (omega (arith, e));
  most = h;
  aligned = named_aligned ((length body + 7) / 8);
  typed = record {
    resource = λ e. absurd (omega (arith, e));
    named = λ e. omega arith;
    volume = λ e. absurd (omega (arith, e));
    cpu = λ e. absurd (omega (arith, e));
    volume2 = λ e. absurd (omega (arith, e));
  };
}
script_kind (VolumeHob base len) h = record {
  kind = omega arith;
  not_handoff = λ e. absurd (omega (arith, e));
  not_end = λ e. absurd (omega (arith, e));
  not_pages = λ e. absurd (omega (arith, e));
  most = omega arith;
  aligned = refl;
  typed = record {
    resource = λ e. absurd (omega (arith, e));
    named = λ e. absurd (omega (arith, e));
    volume = λ e. refl;
    cpu = λ e. absurd (omega (arith, e));
    volume2 = λ e. absurd (omega (arith, e));
  };
}
script_kind (CpuHob memory io) h = record {
  kind = omega arith;
  not_handoff = λ e. absurd (omega (arith, e));
  not_end = λ e. absurd (omega (arith, e));
  not_pages = λ e. absurd (omega (arith, e));
  most = omega arith;
  aligned = refl;
  typed = record {
    resource = λ e. absurd (omega (arith, e));
    named = λ e. absurd (omega (arith, e));
    volume = λ e. absurd (omega (arith, e));
    cpu = λ e. refl;
    volume2 = λ e. absurd (omega (arith, e));
  };
}
script_kind (PoolHob body) h = absurd h
script_kind (Volume2Hob base len volume file) h = record {
  kind = omega arith;
  not_handoff = λ e. absurd (omega (arith, e));
  not_end = λ e. absurd (omega (arith, e));
  not_pages = λ e. absurd (omega (arith, e));
  most = omega arith;
  aligned = refl;
  typed = record {
    resource = λ e. absurd (omega (arith, e));
    named = λ e. absurd (omega (arith, e));
    volume = λ e. absurd (omega (arith, e));
    cpu = λ e. absurd (omega (arith, e));
    volume2 = λ e. refl;
  };
}
script_kind (OtherHob kind body) h = absurd h

pub script_entry : (board : Board) (taken : ℕ) (hob : HobValue) → IsScripted hob → IsHobEntry board taken (hob_entry hob)
script_entry board taken hob is =
    let k = script_kind hob is.script in
    let len : hob_len (hob_entry hob) ≡ length_of hob = is.len in
    let most = k.most in
    let body : length_of hob - header_len ≡ body_len (hob_entry hob).body = omega (arith, len) in
    record {
      kind = k.kind;
      not_handoff = k.not_handoff;
      not_end = k.not_end;
      len = omega (arith, len, most);
      aligned = ap (λ n. n % 8) len ∙ k.aligned;
      typed = subst (HasTypesLength (V.kind_of hob)) body k.typed;
      body = k.not_pages;
    }
