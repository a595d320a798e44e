use Rattle.std.proofs.Common.{◌≡◌, ◌<◌, ◌≤◌, List, ◌-◌, ◌∙◌, ap, get_or, length, subst, set, reverse}
use Rattle.std.specs.List.{refill}
use Rattle.boot_model.specs.declared.frame.Frame.{Frame}
use Rattle.phase_parts.specs.{declared.stack.Frames.TheInside.Inside, Frames.past}
use Rattle.phase_parts.proofs.Topmost.{none_stands, top_changed, top_within}
use Rattle.phase_parts.proofs.stack.Frames.advance.Goals.{in-Some, in_default}
use Rattle.phase_parts.proofs.stack.Frames.advance.Goals as goal

pub advance-requires : goal.advance-requires
advance-requires g c =
    let top = c.in-Some.top.now in
    let read = c.in-Some.ensures.item.3 in
    let P : List (Frame g.row.W.Denot) → Type 0 = λ frames. top ≡ get_or frames (length frames - 1) top in
    let items = c.self.inside.items.items in
    top_within items c.args.self.now top c.self.view_is (subst (λ (frames : List (Frame g.row.W.Denot)). 0 < length frames) c.as_mut_slice.ensures.value read.0) (subst P c.as_mut_slice.ensures.value (read.1 top)) c.requires

pub returns : goal.returns
returns g c = λ frame below is.
    let items = c.self.inside.items.items in
    let stand = c.self.view_is ∙ is in
    elim c.match-last_mut.branch [
      | in-Some w ↦
          let top = w.in-Some.top.now in
          let P : List (Frame g.row.W.Denot) → Type 0 = λ frames. top ≡ get_or frames (length frames - 1) top in
          let new = w.advance.new.frame in
          ap (λ (inside : Inside g.row.W.Denot). reverse inside.items.items) w.self-inside-is
          ∙ ap (λ (frames : List (Frame g.row.W.Denot)). reverse (refill (length items) items (set frames (length frames - 1) new))) c.as_mut_slice.ensures.value
          ∙ top_changed items frame below top new (λ (f : Frame g.row.W.Denot). past f c.args.n) stand (subst P c.as_mut_slice.ensures.value (w.in-Some.ensures.item.3.1 top)) w.advance.ensures
      | in_default w ↦ absurd (none_stands items frame below stand (subst (λ (frames : List (Frame g.row.W.Denot)). length frames ≤ 0) c.as_mut_slice.ensures.value w.in_default.ensures.item.3))
    ]
