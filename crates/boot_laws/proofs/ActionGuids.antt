-- What an action of PEI changes of the GUIDs that are installed.
use Rattle.std.proofs.Common.{◌≡◌, ℕ, ◌∙◌, ap, Bool, true, false, cond, List, [], ◌∷◌, Option, Some, None, refl, Ok, Err, map, ◌||◌, ◌++◌, subst, sym, option_to_list, ◌+◌, not, nat_lt, option_map, unwrap_or, length}
use Rattle.std.specs.{Bool.⊤, List.list_all}
use Rattle.pi_base.specs.{declared.guid.Guid.Guid, Lists.Each}
use Rattle.act_code.specs.declared.action.Action.{Action}
use Rattle.boot_model.specs.{PeiMachine.Frame, declared.frame.Register.Register, MachineFacts.HoldRegisters}
use Rattle.store_model.specs.{declared.store_handle.Desc.Desc, declared.store_handle.Pool.Pool, declared.store_handle.Sweep.Sweep}
use Rattle.store_model.specs.declared.store_handle.StoreFault.TheVariants as F
use Rattle.store_model.specs.{StoreState.StoreState, StoreState.free, StateFacts.IsPool, StateFacts.IsStoreState, Service.Service}
use Rattle.store_model.specs.Service.Descriptor.{guid_at, kind_at, is_ppi, offsets, desc}
use Rattle.store_model.specs.Service.Install.{has_ppi, install_pairs, install_sweep, installed, is_installed, node_need, reinstall_pairs, reinstall_sweep, reinstalled, install, reinstall}
use Rattle.store_model.specs.Service.Memory.{pages, with_boot_mode, set_memory}
use Rattle.store_model.specs.{Service.Pool.pool, Service.Notify.notify, Service.Hob.create_hob}
use Rattle.boot_model.specs.Registers.{pool_in, descriptor_in, register, both, descriptors_in, is_success}
use Rattle.boot_model.specs.PeiAction.{Reply, Effect, Wrote, Called, Own, Shadowed, Logged, Skipped, Returned, effect, kind_number}
use Rattle.boot_model.specs.EvaluationBound.{is_called, action_guids, changed_places}
use Rattle.boot_laws.specs.{ChangedGuids.is_among, EffectForms.EffectHas, EffectForms.RepliesHave}
use Rattle.boot_model.specs.EventGuids.{placed, placed_guids}
use Rattle.boot_laws.proofs.{GuidLists.each_among, GuidLists.or_false, EffectForms.effect_has, EffectForms.any_writes}
use Rattle.boot_laws.proofs.InstalledGuids.{AreThere, installed_has, ppi_is, ppis_are, reinstalled_has, reinstalled_there}
use Rattle.boot_laws.proofs.LastingGuids.{IsQuiet, named, quiet_has}
use Rattle.boot_laws.proofs.QuietServices.{KeepsQuiet, OptionQuiet, pool_quiet, desc_quiet, notify_quiet, hob_quiet, memory_quiet, pages_quiet, store_quiet}
use Rattle.boot_model.proofs.{ListFacts.each_more, ListFacts.has_later, Held.pool_is, Held.is_held as held_at}

-- what changes from one state to another, and what is there then
pub record Puts (s new : StoreState) (changed placed : List Guid) : Type 0 where
  pub changes : (guid : Guid) → is_among guid changed ≡ false → has_ppi new guid ≡ has_ppi s guid
  pub there : Each (λ guid. has_ppi new guid ≡ true) placed

pub puts_nothing : (s : StoreState) → Puts s s [] []
puts_nothing s = record { changes = λ guid h. refl; there = tt }

-- these GUIDs more
pub puts_these : (s new : StoreState) (guids : List Guid) → ((guid : Guid) → has_ppi new guid ≡ (has_ppi s guid || is_among guid guids)) → Puts s new guids guids
puts_these s new guids has = record {
  changes = λ guid h. has guid ∙ ap (λ b. has_ppi s guid || b) h ∙ or_false (has_ppi s guid);
  there = each_more (λ guid. is_among guid guids ≡ true) (λ guid. has_ppi new guid ≡ true) guids (λ guid e. has guid ∙ has_later (has_ppi s guid) (is_among guid guids) e) (each_among guids);
}

-- the state behind an effect
abbrev pub state_after : StoreState → Effect → StoreState
state_after s (Called name reply) = reply.store
state_after s (Wrote registers status) = s
state_after s (Own Shadowed) = s
state_after s (Logged text) = s
state_after s (Skipped n) = s
state_after s (Returned status) = s

held_pool : (s : StoreState) (registers : List Register) (r : ℕ) (pool : Pool) → HoldRegisters registers s → pool_in registers r ≡ Some pool → IsPool s pool
held_pool s registers r pool each e = pool_is s (register registers r) pool (held_at s registers r each) e

-- a service that installs nothing
quiet_puts : (s new : StoreState) → IsStoreState s → IsQuiet s new → Puts s new [] []
quiet_puts s new facts quiet = record { changes = λ guid h. quiet_has s new guid facts quiet; there = tt }

succeeds : {B : Type 0} (s : StoreState) (service : Service B) (pair : B × StoreState) → IsStoreState s → KeepsQuiet s service → service ≡ Ok pair → Puts s pair.1 [] []
succeeds s service pair facts quiet e = quiet_puts s pair.1 facts (subst (λ x. KeepsQuiet s x) e quiet)

install_by : (s : StoreState) (list : List Desc) (by : ℕ) (sweep : Sweep) (new : StoreState) (all full : Bool) → AreThere s → list_all (λ d. is_ppi (kind_at s d.offset)) list ≡ all
    → cond {A = Service Sweep} (not all) (Err F.Bad) (cond full (Err F.Full) (Ok (install_sweep s list, installed s list by))) ≡ Ok (sweep, new) → Puts s new (map (guid_at s) (offsets list)) (map (guid_at s) (offsets list))
install_by s list by sweep new false full there e f = cc
install_by s list by sweep new true true there e f = cc
install_by s list by sweep new true false there e f =
    let own : Sweep × StoreState = (install_sweep s list, installed s list by) in
    let answer : Sweep × StoreState = (sweep, new) in
    let same : own ≡ answer = cc in
    subst (λ (x : Sweep × StoreState). Puts s x.1 (map (guid_at s) (offsets list)) (map (guid_at s) (offsets list))) same
    (puts_these s (installed s list by) (map (guid_at s) (offsets list)) (λ guid. installed_has s list by guid there (ppis_are s list e)))

install_puts : (s : StoreState) (held : Option (List Desc)) (list : List Desc) (by : ℕ) (sweep : Sweep) (new : StoreState) → AreThere s → held ≡ Some list → install s list by ≡ Ok (sweep, new)
    → Puts s new (map (guid_at s) (unwrap_or (option_map offsets held) [])) (map (guid_at s) (unwrap_or (option_map offsets held) []))
install_puts s held list by sweep new there e f =
    subst (λ o. Puts s new (map (guid_at s) (unwrap_or (option_map offsets o) [])) (map (guid_at s) (unwrap_or (option_map offsets o) []))) (sym e)
    (install_by s list by sweep new (list_all (λ d. is_ppi (kind_at s d.offset)) list) (nat_lt (free s) (node_need (length list) + node_need (length (install_pairs s list)))) there refl f)

reinstall_by : (s : StoreState) (old new : Desc) (by : ℕ) (sweep : Sweep) (after : StoreState) (kind found full : Bool) → AreThere s → is_ppi (kind_at s new.offset) ≡ kind → is_installed s old ≡ found
    → cond {A = Service Sweep} (not kind) (Err F.Bad) (cond (not found) (Err F.Missing) (cond full (Err F.Full) (Ok (reinstall_sweep s old, reinstalled s old new by)))) ≡ Ok (sweep, after)
    → Puts s after (map (guid_at s) (old.offset ∷ new.offset ∷ [])) (map (guid_at s) (new.offset ∷ []))
reinstall_by s old new by sweep after false found full there e f g = cc
reinstall_by s old new by sweep after true false full there e f g = cc
reinstall_by s old new by sweep after true true true there e f g = cc
reinstall_by s old new by sweep after true true false there e f g =
    let own : Sweep × StoreState = (reinstall_sweep s old, reinstalled s old new by) in
    let answer : Sweep × StoreState = (sweep, after) in
    let same : own ≡ answer = cc in
    subst (λ (x : Sweep × StoreState). Puts s x.1 (map (guid_at s) (old.offset ∷ new.offset ∷ [])) (map (guid_at s) (new.offset ∷ []))) same (record {
      changes = λ guid h. reinstalled_has s old new by guid there (ppi_is s new.offset e) h;
      there = (reinstalled_there s old new by there (ppi_is s new.offset e) f, tt);
    })

reinstall_puts : (s : StoreState) (old new : Option Desc) (pair : Desc × Desc) (by : ℕ) (sweep : Sweep) (after : StoreState) → AreThere s → both old new ≡ Some pair → reinstall s pair.0 pair.1 by ≡ Ok (sweep, after)
    → Puts s after (map (guid_at s) (offsets (option_to_list old ++ option_to_list new))) (map (guid_at s) (offsets (option_to_list new)))
reinstall_puts s None new pair by sweep after there e f = cc
reinstall_puts s (Some old) None pair by sweep after there e f = cc
reinstall_puts s (Some old) (Some new) pair by sweep after there e f =
    let own : Desc × Desc = (old, new) in
    let same : pair ≡ own = cc in
    reinstall_by s old new by sweep after (is_ppi (kind_at s new.offset)) (is_installed s old) (nat_lt (free s) (node_need (length (reinstall_pairs s new)))) there refl refl
    (subst (λ (p : Desc × Desc). reinstall s p.0 p.1 by ≡ Ok (sweep, after)) same f)

-- a reply puts in what stands at the places of its action, where it succeeds
abbrev ReplyPuts : StoreState → List ℕ → List ℕ → Reply → Type 0
ReplyPuts s changed placed reply = Puts s reply.store (cond (is_success reply.status) (map (guid_at s) changed) []) (cond (is_success reply.status) (map (guid_at s) placed) [])

refused_puts : (s : StoreState) (b : Bool) (changed placed : List Guid) → b ≡ false → Puts s s (cond b changed []) (cond b placed [])
refused_puts s true changed placed e = cc
refused_puts s false changed placed e = puts_nothing s

replies_put : (s : StoreState) (frame : Frame) → IsStoreState s → HoldRegisters frame.registers s → RepliesHave s frame (λ action reply. ReplyPuts s (changed_places frame action) (placed frame action) reply)
replies_put s frame facts held = record {
  refused = λ action status other. refused_puts s (is_success status) _ _ other;
  pool = λ r size made new e. succeeds s (pool s size) (made, new) facts (pool_quiet s size) e;
  store = λ p offset bytes to new in_pool e. quiet_puts s new facts (subst (λ o. OptionQuiet s o) e (store_quiet s to offset bytes (held_pool s frame.registers p to held in_pool)));
  peek = λ v n bytes. puts_nothing s;
  desc = λ d kind guid arg of made new e f. succeeds s (desc s (kind_number kind) of.0 of.1) (made, new) facts (desc_quiet s (kind_number kind) of.0 of.1) f;
  install = λ list found sweep new e f. install_puts s (descriptors_in frame.registers list) found frame.module_number sweep new (named s s.ppis facts.ppis) e f;
  reinstall = λ old new pair sweep after e f.
      reinstall_puts s (descriptor_in frame.registers old) (descriptor_in frame.registers new) pair frame.module_number sweep after (named s s.ppis facts.ppis) e f;
  notify = λ list found sweep new e f. succeeds s (notify s found frame.module_number) (sweep, new) facts (notify_quiet s found frame.module_number) f;
  locate = λ d v guid instance found e. puts_nothing s;
  hob = λ kind body hob address new e f. succeeds s (create_hob s hob) (address, new) facts (hob_quiet s hob) f;
  memory = λ begin len span done new e f. succeeds s (set_memory s span.0 span.1) (done, new) facts (memory_quiet s span.0 span.1) f;
  pages = λ r memory_type count address new e. succeeds s (pages s memory_type count) (address, new) facts (pages_quiet s memory_type count) e;
  mode = λ r. puts_nothing s;
  set_mode = λ form r mode small. quiet_puts s (with_boot_mode s mode) facts (record { lasts = λ place d h. h; ppis = refl });
}

effect_puts : (s : StoreState) (does : Effect) (changed placed : List ℕ) → EffectHas (ReplyPuts s changed placed) (λ registers. ⊤) does
    → Puts s (state_after s does) (cond (is_called does) (map (guid_at s) changed) []) (cond (is_called does) (map (guid_at s) placed) [])
effect_puts s (Called name reply) changed placed puts = puts
effect_puts s (Wrote registers status) changed placed puts = puts_nothing s
effect_puts s (Own Shadowed) changed placed puts = puts_nothing s
effect_puts s (Logged text) changed placed puts = puts_nothing s
effect_puts s (Skipped n) changed placed puts = puts_nothing s
effect_puts s (Returned status) changed placed puts = puts_nothing s

pub puts : (s : StoreState) (frame : Frame) (action : Action) → IsStoreState s → HoldRegisters frame.registers s → Puts s (state_after s (effect s frame action)) (action_guids s frame action) (placed_guids s frame action)
puts s frame action facts held =
    effect_puts s (effect s frame action) (changed_places frame action) (placed frame action)
    (effect_has s frame (λ own reply. ReplyPuts s (changed_places frame own) (placed frame own) reply) (λ _ registers. ⊤) (any_writes s frame) (replies_put s frame facts held) action)
