-- The move keeps which GUIDs are installed, and behind the core's install that of permanent memory is.
use Rattle.std.proofs.Common.{◌≡◌, ℕ, ◌+◌, Bool, true, false, cond, List, [], ◌∷◌, ◌∙◌, ap, sym, refl, Option, Some, None, Ok, Err, ◌||◌, length, nat_lt, not, option_map}
use Rattle.std.specs.{Bool.⊤, List.list_all}
use Rattle.pi_base.specs.{declared.guid.Guid.Guid, declared.known_guid.TheConstants.MEMORY_PPI, Guids.same_guid, Lists.Each}
use Rattle.store_model.specs.{declared.state.TheConstants.CORE, declared.state.Body.TheVariants.Descriptor, declared.state.Entry.Entry}
use Rattle.store_model.specs.{declared.state.HobEntry.HobEntry, declared.store_handle.Desc.Desc}
use Rattle.store_model.specs.{declared.store_handle.DescKind.TheVariants.Ppi, declared.store_handle.Sweep.Sweep, StateFacts.IsStoreState}
use Rattle.store_model.specs.declared.store_handle.StoreFault.TheVariants as F
use Rattle.store_model.specs.StoreState.{StoreState, Range, appended, free, header_len, next_body, pool_of, descriptor_len}
use Rattle.store_model.specs.Migration.{migration, migrated_to, moved_descriptor}
use Rattle.store_model.specs.Service.{Service}
use Rattle.store_model.specs.Service.Descriptor.{descriptors, descriptor_in, guid_at, is_named, is_ppi, kind_at}
use Rattle.store_model.specs.Service.Install.{both_or_full, core_install, core_of, has_ppi, install_pairs, install_sweep, installed, node_need}
use Rattle.boot_model.specs.EvaluationBound.{core_guids}
use Rattle.boot_model.proofs.ListFacts.{each_both, each_more}
use Rattle.boot_laws.proofs.{MovedHobs.moved_named, Unmoved.entries_named}
use Rattle.store_laws.proofs.Bodies.{new_body}
use Rattle.boot_laws.specs.ChangedGuids.{is_among}
use Rattle.boot_laws.proofs.ActionGuids.{Puts, puts_nothing, puts_these}
use Rattle.boot_laws.proofs.InstalledGuids.{AreThere, installed_has, ppis_are}
use Rattle.boot_laws.proofs.LastingGuids.{HasDescriptor, IsQuiet, by_places, guid_of, has_in, has_lasts, named, quiet_added}

-- what a PPI names is named
by_descriptor : (s : StoreState) (entries : List Entry) → Each (λ entry. is_named s entry.descriptor ≡ true) entries → Each (λ place. is_named s place ≡ true) (descriptors entries)
by_descriptor s [] each = tt
by_descriptor s (entry ∷ entries) each = (each.0, by_descriptor s entries each.1)

ppis_named : (s : StoreState) → Each (λ place. is_named s place ≡ true) (descriptors s.ppis)
ppis_named s = by_descriptor s s.ppis (entries_named s).0

-- which GUIDs are installed where each keeps its own
has_by : (s t : StoreState) (guid : Guid) (places : List ℕ) → Each (λ place. guid_at t place ≡ guid_at s place) places → has_in t guid places ≡ has_in s guid places
has_by s t guid [] each = refl
has_by s t guid (place ∷ places) each =
    ap (λ own. same_guid own guid || has_in t guid places) each.0 ∙ ap (λ more. same_guid (guid_at s place) guid || more) (has_by s t guid places each.1)

-- a state with the GUIDs of another, all of whose PPIs name descriptors
pub record Keeps (s t : StoreState) : Type 0 where
  pub has : (guid : Guid) → has_ppi t guid ≡ has_ppi s guid
  pub there : AreThere t

moved_keeps : (s : StoreState) (to : Range) → IsStoreState s → Keeps s (migrated_to s to)
moved_keeps s to facts =
    let t : StoreState = migrated_to s to in
    let places : List ℕ = descriptors s.ppis in
    let both = each_both (HasDescriptor s) (λ place. is_named s place ≡ true) places (named s s.ppis facts.ppis) (ppis_named s) in
    let guids : Each (λ place. guid_at t place ≡ guid_at s place) places =
    each_more (λ place. HasDescriptor s place × (is_named s place ≡ true)) (λ place. guid_at t place ≡ guid_at s place) places
    (λ place h. ap (λ body. guid_of (descriptor_in body)) (moved_named s to place h.0.0 facts h.1 h.0.1) ∙ sym (ap (λ body. guid_of (descriptor_in body)) h.0.1)) both in
    record {
      has = λ guid. by_places t guid ∙ has_by s t guid places guids ∙ sym (by_places s guid);
      there = each_more (λ place. HasDescriptor s place × (is_named s place ≡ true)) (HasDescriptor t) places (λ place h. (moved_descriptor s to h.0.0, moved_named s to place h.0.0 facts h.1 h.0.1)) both;
    }

-- of a value that may be none
abbrev pub OfSome : {A : Type 0} → (A → Type 0) → Option A → Type 0
OfSome P None = ⊤
OfSome P (Some x) = P x

by_plan : (s : StoreState) (b : Bool) (planned : Option Range) → IsStoreState s → OfSome (Keeps s) (cond b None (option_map (migrated_to s) planned))
by_plan s true planned facts = tt
by_plan s false None facts = tt
by_plan s false (Some to) facts = moved_keeps s to facts

pub migration_keeps : (s : StoreState) → IsStoreState s → OfSome (Keeps s) (migration s)
migration_keeps s facts = by_plan s s.moved s.planned facts

-- the state behind the core's call
abbrev pub core_state : StoreState → Service Sweep → StoreState
core_state s (Ok (sweep, new)) = new
core_state s (Err fault) = s

abbrev CorePuts : StoreState → Service Sweep → Type 0
CorePuts s service = Puts s (core_state s service) (core_guids service) (core_guids service)

-- the descriptor of permanent memory
abbrev memory_hob : HobEntry
memory_hob = pool_of (Descriptor (record { kind = Ppi; guid = MEMORY_PPI; stands = None; number = 0 }))

core_by : (s : StoreState) (d : Desc) (all full : Bool) → AreThere s → d.offset ≡ next_body s → list_all (λ x. is_ppi (kind_at (appended s memory_hob) x.offset)) (d ∷ []) ≡ all
    → CorePuts s (both_or_full (cond (not all) (Err F.Bad) (cond full (Err F.Full) (Ok (install_sweep (appended s memory_hob) (d ∷ []), installed (appended s memory_hob) (d ∷ []) CORE)))))
core_by s d false full there at e = puts_nothing s
core_by s d true true there at e = puts_nothing s
core_by s d true false there at e =
    let made : StoreState = appended s memory_hob in
    let quiet : IsQuiet s made = quiet_added s made memory_hob refl refl in
    let more : AreThere made = each_more (HasDescriptor s) (HasDescriptor made) (descriptors s.ppis) (λ place h. (h.0, quiet.lasts place h.0 h.1)) there in
    let is : guid_at made d.offset ≡ MEMORY_PPI = ap (guid_at made) at ∙ ap (λ body. guid_of (descriptor_in body)) (new_body s.hobs memory_hob 56 (next_body s) refl) in
    puts_these s (installed made (d ∷ []) CORE) (MEMORY_PPI ∷ []) (λ guid.
    let same : has_ppi made guid ≡ has_ppi s guid = by_places made guid ∙ has_lasts s made guid (descriptors s.ppis) quiet.lasts there ∙ sym (by_places s guid) in
    installed_has made (d ∷ []) CORE guid more (ppis_are made (d ∷ []) e) ∙ ap (λ b. b || is_among guid (guid_at made d.offset ∷ [])) same ∙ ap (λ own. has_ppi s guid || is_among guid (own ∷ [])) is)

by_room : (s : StoreState) (b : Bool) → AreThere s → CorePuts s (core_of (cond b (Err F.Full) (Ok (record { offset = next_body s }, appended s memory_hob))))
by_room s true there = puts_nothing s
by_room s false there =
    let made : StoreState = appended s memory_hob in
    let d : Desc = record { offset = next_body s } in
    core_by s d (list_all (λ x. is_ppi (kind_at made x.offset)) (d ∷ [])) (nat_lt (free made) (node_need (length (d ∷ [])) + node_need (length (install_pairs made (d ∷ []))))) there refl refl

pub core_puts : (s : StoreState) → AreThere s → CorePuts s (core_install s)
core_puts s there = by_room s (nat_lt (free s) (descriptor_len None + header_len)) there
