use Rattle.std.proofs.Common.{◌≡◌, sym, ◌∙◌, ap, length, List, Some, None, slice_get, option_and_then}
use Rattle.guid_lists.specs.Places.{places}
use Rattle.mem_store.specs.{declared.guid_index.index.Indexed.Indexed, Entries.entries_of, Entries.has_at}
use Rattle.mem_store.proofs.Having.{nth_is}
use Rattle.mem_store.proofs.guid_index.index.GuidIndex.nth.Goals as goal

pub returns-in-Some : goal.returns-in-Some
returns-in-Some c =
    let list = c.self.inside.entries in
    let guid = c.args.guid.now in
    let here : slice_get (places (has_at list guid) (length list)) c.args.n ≡ Some c.in-Some.place =
    ap (λ l. slice_get l c.args.n) (sym (c.self.invariant guid)) ∙ sym c.in-Some.ensures in
    c.get.ensures ∙ ap (λ (l : List Indexed). slice_get l c.in-Some.place) (sym c.self.view_is) ∙ sym (ap (option_and_then (slice_get list)) here) ∙ nth_is list guid c.args.n
    ∙ ap (λ (l : List Indexed). slice_get (entries_of l guid) c.args.n) c.self.view_is

pub returns-in-None : goal.returns-in-None
returns-in-None c =
    let list = c.self.inside.entries in
    let guid = c.args.guid.now in
    let here : slice_get (places (has_at list guid) (length list)) c.args.n ≡ None =
    ap (λ l. slice_get l c.args.n) (sym (c.self.invariant guid)) ∙ sym c.in-None.ensures in
    sym (ap (option_and_then (slice_get list)) here) ∙ nth_is list guid c.args.n ∙ ap (λ (l : List Indexed). slice_get (entries_of l guid) c.args.n) c.self.view_is
