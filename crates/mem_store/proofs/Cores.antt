-- The core's own install.
use Rattle.std.proofs.Common.{◌+◌, Bool, true, false, cond, [], ◌∷◌, ◌++◌, ap, refl, ◌∙◌, arith, None, Ok, Err, nat_lt}
use Rattle.pi_base.specs.{declared.guid.Guid.Guid, declared.known_guid.TheConstants.MEMORY_PPI}
use Rattle.store_model.specs.{declared.state.TheConstants.CORE, declared.state.Body.TheVariants.Descriptor}
use Rattle.store_model.specs.{declared.state.DescriptorBody.DescriptorBody, declared.store_handle.Desc.Desc}
use Rattle.store_model.specs.{declared.store_handle.DescKind.TheVariants.Ppi, declared.store_handle.GuidFrom.TheVariants.Inline}
use Rattle.store_model.specs.declared.store_handle.StoreFault.TheVariants as F
use Rattle.store_model.specs.{declared.store_handle.Sweep.Sweep, StateFacts.IsDesc, StateFacts.IsStoreState, Service.Service}
use Rattle.store_model.specs.StoreState.{StoreState, appended, descriptor_len, free, header_len, body_at, next_body, pool_of}
use Rattle.store_model.specs.Service.Install.{both_or_full, core_install, core_of, install}
use Rattle.store_laws.specs.{Bodies.BodiesStay, Keeping.KeepFacts, Keeping.Keeps}
use Rattle.mem_store.specs.Rows.{rows_of}
use Rattle.mem_store.specs.Serving.{After, RowsInstalled, RowsOfCore}
use Rattle.mem_store.proofs.{KeepingRows.guid_in, Services.appended_same, Services.install_keeps}

both_on : (P Q : StoreState → Type 0) → ((t : StoreState) → P t → Q t) → (service : Service Sweep) → After P service → After Q (both_or_full service)
both_on P Q f (Ok done) h = f done.1 h
both_on P Q f (Err fault) h = tt

-- the descriptor of the PPI of permanent memory
abbrev core_descriptor : DescriptorBody
core_descriptor = record { kind = Ppi; guid = MEMORY_PPI; stands = None; number = 0 }

-- the state with it, and what names it
abbrev with_core : StoreState → StoreState
with_core s = appended s (pool_of (Descriptor core_descriptor))

abbrev core_desc : StoreState → Desc
core_desc s = record { offset = next_body s }

core_rows : BodiesStay → (s t : StoreState) → IsStoreState s → RowsInstalled (with_core s) t (core_desc s ∷ []) → RowsOfCore s t
core_rows stay s t state are =
    let first = appended_same stay s (pool_of (Descriptor core_descriptor)) state in
    let told = ap guid_in (stay.new s (pool_of (Descriptor core_descriptor))) in
    record {
      ppis = are.ppis ∙ ap (λ l. l ++ record { guid = guid_in (body_at (with_core s) (next_body s)); at = next_body s } ∷ []) first.ppis
          ∙ ap (λ (guid : Guid). rows_of s s.ppis ++ record { guid = guid; at = next_body s } ∷ []) told;
      callbacks = are.callbacks ∙ first.callbacks;
      dispatches = are.dispatches ∙ first.dispatches;
      named = are.named;
    }

core_on : BodiesStay → (s : StoreState) (full : Bool) → IsStoreState s → Keeps (cond full (Err F.Full) (Ok (core_desc s, with_core s)))
    → After (RowsOfCore s) (core_of (cond full (Err F.Full) (Ok (core_desc s, with_core s))))
core_on stay s true state keeps = tt
core_on stay s false state keeps =
    let there : IsDesc (with_core s) (core_desc s) = (core_descriptor, stay.new s (pool_of (Descriptor core_descriptor))) in
    both_on (λ t. RowsInstalled (with_core s) t (core_desc s ∷ [])) (RowsOfCore s) (λ t are. core_rows stay s t state are)
    (install (with_core s) (core_desc s ∷ []) CORE) (install_keeps stay (with_core s) (core_desc s ∷ []) CORE keeps (there, tt))

pub core_keeps : BodiesStay → KeepFacts → (s : StoreState) → IsStoreState s → After (RowsOfCore s) (core_install s)
core_keeps stay keep s state = core_on stay s (nat_lt (free s) (descriptor_len None + header_len)) state
    (keep.desc s Ppi (Inline MEMORY_PPI) 0 state (record { guid_is = refl; number_is = omega arith }))
