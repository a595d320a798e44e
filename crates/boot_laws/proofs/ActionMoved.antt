-- No action of PEI moves the store.
use Rattle.std.proofs.Common.{◌≡◌, refl, Ok, subst}
use Rattle.std.specs.Bool.{⊤}
use Rattle.store_model.specs.{Service.Memory.pages, Service.Memory.set_memory, StoreState.StoreState, Service.Service, Service.Pool.pool}
use Rattle.act_code.specs.declared.action.Action.{Action}
use Rattle.boot_model.specs.PeiMachine.{Frame}
use Rattle.boot_model.specs.PeiAction.{Effect, effect, kind_number}
use Rattle.boot_laws.proofs.StoreMoved.{KeepsMoved, OptionMoved, pool_moved, desc_moved, install_moved, notify_moved, reinstall_moved, hob_moved, memory_moved, pages_moved, store_moved}
use Rattle.boot_laws.specs.EffectForms.{EffectHas, RepliesHave}
use Rattle.boot_laws.proofs.EffectForms.{effect_has, any_writes}
use Rattle.store_model.specs.{Service.Descriptor.desc, Service.Install.install, Service.Install.reinstall, Service.Notify.notify}
use Rattle.store_model.specs.Service.Hob.{create_hob}

-- an effect leaves the store moved exactly where it was
abbrev pub EffectKeeps : StoreState → Effect → Type 0
EffectKeeps s does = EffectHas (λ reply. reply.store.moved ≡ s.moved) (λ registers. ⊤) does

succeeds : {B : Type 0} (s : StoreState) (service : Service B) (pair : B × StoreState) → KeepsMoved s service → service ≡ Ok pair → pair.1.moved ≡ s.moved
succeeds s service pair keeps e = subst (λ x. KeepsMoved s x) e keeps

replies_keep : (s : StoreState) (frame : Frame) → RepliesHave s frame (λ action reply. reply.store.moved ≡ s.moved)
replies_keep s frame = record {
  refused = λ action status other. refl;
  pool = λ r size made new e. succeeds s (pool s size) (made, new) (pool_moved s size) e;
  store = λ p offset bytes to new held e. subst (λ o. OptionMoved s o) e (store_moved s to offset bytes);
  peek = λ v n bytes. refl;
  desc = λ d kind guid arg of made new e f. succeeds s (desc s (kind_number kind) of.0 of.1) (made, new) (desc_moved s (kind_number kind) of.0 of.1) f;
  install = λ list found sweep new e f. succeeds s (install s found frame.module_number) (sweep, new) (install_moved s found frame.module_number) f;
  reinstall = λ old new pair sweep after e f. succeeds s (reinstall s pair.0 pair.1 frame.module_number) (sweep, after) (reinstall_moved s pair.0 pair.1 frame.module_number) f;
  notify = λ list found sweep new e f. succeeds s (notify s found frame.module_number) (sweep, new) (notify_moved s found frame.module_number) f;
  locate = λ d v guid instance found e. refl;
  hob = λ kind body hob address new e f. succeeds s (create_hob s hob) (address, new) (hob_moved s hob) f;
  memory = λ begin len span done new e f. succeeds s (set_memory s span.0 span.1) (done, new) (memory_moved s span.0 span.1) f;
  pages = λ r memory_type count address new e. succeeds s (pages s memory_type count) (address, new) (pages_moved s memory_type count) e;
  mode = λ r. refl;
  set_mode = λ form r mode small. refl;
}

pub effect_keeps : (s : StoreState) (frame : Frame) (action : Action) → EffectKeeps s (effect s frame action)
effect_keeps s frame action = effect_has s frame (λ _ reply. reply.store.moved ≡ s.moved) (λ _ registers. ⊤) (any_writes s frame) (replies_keep s frame) action
