use Rattle.std.proofs.Common.{◌∙◌, [], ◌∷◌, ◌++◌, ap, slice_get, subst, sym}
use Rattle.pi_base.specs.declared.guid.Guid.{Guid}
use Rattle.store_model.specs.{declared.store_handle.EntryList.TheVariants.Ppis, Service.Reading.entry_behind, StoreCall.IsNodeIn}
use Rattle.mem_store.proofs.{Learning.last_at, Learning.learned, Saying.facts_of}
use Rattle.mem_store.proofs.named.Named.learn_one.Goals as goal

pub tell_behind-requires : goal.tell_behind-requires
tell_behind-requires c =
    let s = c.requires.0 in
    let h = c.requires.1 in
    let at = last_at c.entries_are_told.ensures s c.args.self.now.nodes (facts_of c.args.behind.now s h) c.requires.2.1 in
    (s, h, subst (λ n. IsNodeIn Ppis n s) (sym c.last.ensures) at.is_in)

pub returns-clause-known : goal.returns-clause-known
returns-clause-known c = λ s h can.
    let nodes = c.args.self.now.nodes in
    let ppis = c.args.ppis.now in
    let told = c.in-Some-tell_behind.told in
    let law = c.entries_are_told.ensures in
    let state = facts_of c.args.behind.now s h in
    let at = last_at law s nodes state can.1 in
    let there = ap (slice_get ppis) (sym c.len.ensures) ∙ sym c.in-Some.ensures in
    let is = c.in-Some-tell_behind.ensures s h (subst (λ n. IsNodeIn Ppis n s) (sym c.last.ensures) at.is_in) ∙ ap (entry_behind s Ppis) c.last.ensures in
    learned law s nodes ppis c.push.new.self c.in-Some.row told c.push.result state can there is
    (λ yes. c.push.ensures.pushed yes ∙ ap (λ (k : Guid). nodes ++ record { guid = k; at = told.node } ∷ []) c.key.ensures.key) c.push.ensures.same
