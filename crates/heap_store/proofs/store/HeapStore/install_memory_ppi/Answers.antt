use Rattle.std.proofs.Common.{◌≡◌, ◌∙◌, [], ◌∷◌, ap, refl, sym, subst}
use Rattle.pi_base.specs.Lists.{Each}
use Rattle.store_model.specs.{declared.state.TheConstants.CORE, StateFacts.IsDesc, Service.Install.install}
use Rattle.heap_store.proofs.CoreInstalls.{core_descs, core_enough, core_full, core_row, core_second, no_fault}
use Rattle.heap_store.proofs.store.HeapStore.install_memory_ppi.Goals as goal

pub dispatches_of-pairs-requires : goal.dispatches_of-pairs-requires
dispatches_of-pairs-requires c = (c.requires.0, c.requires.1, tt)

pub is_full_for_core-requires : goal.is_full_for_core-requires
is_full_for_core-requires c = (c.requires.0, c.requires.1, tt)

pub make_desc-requires-clause-state : goal.make_desc-requires-clause-state
make_desc-requires-clause-state c = (c.requires.0, c.requires.1, tt)

pub returns-then-is_full_for_core : goal.returns-then-is_full_for_core
returns-then-is_full_for_core c s h =
    let room = sym (c.is_full_for_core.ensures s h tt) ∙ c.if-is_full_for_core.true in
    (s, (core_full s c.dispatches_of-pairs.result c.bodies_stay.ensures c.steps_keep_facts.ensures h.linked.heap_is.state (c.dispatches_of-pairs.ensures s h tt) room, refl), h)

pub install_ppis-requires-clause-state : goal.install_ppis-requires-clause-state
install_ppis-requires-clause-state c =
    let s = c.requires.0 in
    let h = c.requires.1 in
    let room = sym (c.is_full_for_core.ensures s h tt) ∙ c.if-is_full_for_core.false in
    let made = c.in-Ok.ensures s h in
    let one : c.as_slice-list.result.now ≡ c.in-Ok.d ∷ [] = c.as_slice-list.ensures in
    (made.0, made.2, subst (Each (IsDesc made.0)) (sym one) (core_descs s made.0 c.in-Ok.d c.bodies_stay.ensures (core_enough s c.dispatches_of-pairs.result room) made.1))

pub unreachable-requires-in-Err-install_ppis : goal.unreachable-requires-in-Err-install_ppis
unreachable-requires-in-Err-install_ppis c =
    let s = c.requires.0 in
    let h = c.requires.1 in
    let room = sym (c.is_full_for_core.ensures s h tt) ∙ c.if-is_full_for_core.false in
    let made = c.in-Ok.ensures s h in
    let t = made.0 in
    let d = c.in-Ok.d in
    let one : c.as_slice-list.result.now ≡ d ∷ [] = c.as_slice-list.ensures in
    let descs = subst (Each (IsDesc t)) (sym one) (core_descs s t d c.bodies_stay.ensures (core_enough s c.dispatches_of-pairs.result room) made.1) in
    let refused = c.in-Err-install_ppis.ensures t (made.2, descs) in
    let second = core_second s t d c.dispatches_of-pairs.result c.bodies_stay.ensures c.steps_keep_facts.ensures h.linked.heap_is.state (c.dispatches_of-pairs.ensures s h tt) room made.1 in
    no_fault (install t c.as_slice-list.result.now CORE) second.0 t second.1 refused.0 c.in-Err-install_ppis._refused (ap (λ l. install t l CORE) one ∙ second.2) refused.1

pub returns : goal.returns
returns c s h =
    let room = sym (c.is_full_for_core.ensures s h tt) ∙ c.if-is_full_for_core.false in
    let made = c.in-Ok.ensures s h in
    let t = made.0 in
    let d = c.in-Ok.d in
    let one : c.as_slice-list.result.now ≡ d ∷ [] = c.as_slice-list.ensures in
    let descs = subst (Each (IsDesc t)) (sym one) (core_descs s t d c.bodies_stay.ensures (core_enough s c.dispatches_of-pairs.result room) made.1) in
    let done = c.in-Ok-install_ppis.ensures t (made.2, descs) in
    (done.0, core_row s t done.0 d c.in-Ok-install_ppis.sweep made.1 (ap (λ l. install t l CORE) (sym one) ∙ done.1), done.2)
