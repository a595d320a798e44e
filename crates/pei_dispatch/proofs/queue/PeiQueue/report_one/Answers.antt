use Rattle.std.proofs.Common.{arith, ◌≡◌, ℕ, ◌≤◌, ◌<◌, List, [], ◌∷◌, ◌++◌, length, ap, sym, subst, ◌∙◌, refl, append-nil}
use Rattle.pi_base.specs.{Lists.Each, declared.phase.Phase.TheVariants.Pei}
use Rattle.mod_catalog.specs.declared.limits.TheConstants.{MOST_MODULES}
use Rattle.phase_parts.specs.Parts.{ranked_parts, unranked_parts}
use Rattle.boot_model.specs.{Licence.AllDiffer, PeiChoice.volume_order}
use Rattle.pei_dispatch.specs.declared.queue.PeiQueue.{PeiQueue}
use Rattle.pei_dispatch.proofs.{Room.room_for, Room.front_fits, Views.order_with, Views.shows_reported}
use Rattle.pei_dispatch.proofs.queue.PeiQueue.report_one.Goals as goal

pub push_ranked-requires-clause-room : goal.push_ranked-requires-clause-room
push_ranked-requires-clause-room c =
    let catalog = c.args.catalog.now in
    let ranked = ranked_parts Pei catalog c.args.volume in
    let others = unranked_parts Pei catalog c.args.volume in
    front_fits (c.new-parts.result ++ ranked) others MOST_MODULES
    (room_for c.order_is_of_modules.ensures catalog [] c.new-parts.result ranked others c.args.volume MOST_MODULES c.requires.catalog.few_modules refl c.new-parts.ensures (refl, tt))

pub push_unranked-requires-clause-room : goal.push_unranked-requires-clause-room
push_unranked-requires-clause-room c =
    let catalog = c.args.catalog.now in
    let ranked = ranked_parts Pei catalog c.args.volume in
    let others = unranked_parts Pei catalog c.args.volume in
    subst (λ (xs : List ℕ). length (xs ++ others) ≤ MOST_MODULES) (sym c.push_ranked.ensures)
    (room_for c.order_is_of_modules.ensures catalog [] c.new-parts.result ranked others c.args.volume MOST_MODULES c.requires.catalog.few_modules refl c.new-parts.ensures (refl, tt))

pub discover-requires-clause-known : goal.discover-requires-clause-known
discover-requires-clause-known c =
    let catalog = c.args.catalog.now in
    let ranked = ranked_parts Pei catalog c.args.volume in
    let others = unranked_parts Pei catalog c.args.volume in
    let is : c.as_slice.result.now ≡ volume_order catalog c.args.volume =
    c.as_slice.ensures ∙ c.push_unranked.ensures ∙ ap (λ xs. xs ++ others) c.push_ranked.ensures ∙ ap (λ xs. (xs ++ ranked) ++ others) c.new-parts.ensures in
    subst (λ (xs : List ℕ). Each (λ number. number < length catalog.modules) xs) (append-nil (volume_order catalog c.args.volume) ∙ sym is)
    (c.order_is_of_modules.ensures catalog (c.args.volume ∷ []) (refl, tt)).below

pub discover-requires-clause-differ : goal.discover-requires-clause-differ
discover-requires-clause-differ c =
    let catalog = c.args.catalog.now in
    let ranked = ranked_parts Pei catalog c.args.volume in
    let others = unranked_parts Pei catalog c.args.volume in
    let view = c.requires.new.0 in
    let is : c.as_slice.result.now ≡ volume_order catalog c.args.volume =
    c.as_slice.ensures ∙ c.push_unranked.ensures ∙ ap (λ xs. xs ++ others) c.push_ranked.ensures ∙ ap (λ xs. (xs ++ ranked) ++ others) c.new-parts.ensures in
    subst AllDiffer (order_with catalog view c.args.volume ∙ ap (λ xs. xs ++ volume_order catalog c.args.volume) (sym c.requires.new.1.order) ∙ ap (λ xs. c.args.self.now.index.places.order.items ++ xs) (sym is))
    (c.order_is_of_modules.ensures catalog (view.reported ++ c.args.volume ∷ []) c.requires.new.2).differ

pub returns-clause-shows : goal.returns-clause-shows
returns-clause-shows c view shows are_new =
    let catalog = c.args.catalog.now in
    let ranked = ranked_parts Pei catalog c.args.volume in
    let others = unranked_parts Pei catalog c.args.volume in
    let is : c.as_slice.result.now ≡ volume_order catalog c.args.volume =
    c.as_slice.ensures ∙ c.push_unranked.ensures ∙ ap (λ xs. xs ++ others) c.push_ranked.ensures ∙ ap (λ xs. (xs ++ ranked) ++ others) c.new-parts.ensures in
    let new : PeiQueue = record { index = c.discover.new.self; cursor = c.args.self.now.cursor; walked = c.args.self.now.walked } in
    shows_reported catalog c.args.self.now new view c.args.volume c.as_slice.result.now c.order_is_of_modules.ensures shows are_new is
    c.discover.ensures.index c.discover.ensures.come c.discover.ensures.phase c.discover.ensures.installed

pub returns-clause-owed : goal.returns-clause-owed
returns-clause-owed c =
    let catalog = c.args.catalog.now in
    let ranked = ranked_parts Pei catalog c.args.volume in
    let others = unranked_parts Pei catalog c.args.volume in
    let is : c.as_slice.result.now ≡ volume_order catalog c.args.volume =
    c.as_slice.ensures ∙ c.push_unranked.ensures ∙ ap (λ xs. xs ++ others) c.push_ranked.ensures ∙ ap (λ xs. (xs ++ ranked) ++ others) c.new-parts.ensures in
    let long : length c.as_slice.result.now ≡ length (volume_order catalog c.args.volume) = ap length is in
    omega (arith, c.discover.ensures.owed, long)
