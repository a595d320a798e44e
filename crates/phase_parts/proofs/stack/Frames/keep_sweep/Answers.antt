use Rattle.std.proofs.Common.{◌≡◌, ◌<◌, ◌≤◌, List, ◌-◌, ◌∙◌, Some, ap, get_or, length, set, subst, reverse}
use Rattle.std.specs.List.{refill}
use Rattle.boot_model.specs.declared.frame.Frame.{Frame}
use Rattle.phase_parts.specs.declared.stack.Frames.TheInside.{Inside}
use Rattle.phase_parts.proofs.Topmost.{none_swept, sweep_kept}
use Rattle.phase_parts.proofs.stack.Frames.keep_sweep.Goals.{in-Some, in_default}
use Rattle.phase_parts.proofs.stack.Frames.keep_sweep.Goals as goal

pub returns : goal.returns
returns g c =
    let items = c.self.inside.items.items in
    elim c.match-last_mut.branch [
      | in-Some w ↦
          let top = w.in-Some.top.now in
          let read = w.in-Some.ensures.item.3 in
          let P : List (Frame g.row.W.Denot) → Type 0 = λ frames. top ≡ get_or frames (length frames - 1) top in
          ap (λ (inside : Inside g.row.W.Denot). reverse inside.items.items) w.self-inside-is
          ∙ ap (λ (frames : List (Frame g.row.W.Denot)). reverse (refill (length items) items (set frames (length frames - 1) (record top { sweep = Some c.args.sweep })))) c.as_mut_slice.ensures.value
          ∙ sweep_kept items c.args.self.now top c.args.sweep c.self.view_is (subst (λ (frames : List (Frame g.row.W.Denot)). 0 < length frames) c.as_mut_slice.ensures.value read.0) (subst P c.as_mut_slice.ensures.value (read.1 top))
      | in_default w ↦
          ap (λ (inside : Inside g.row.W.Denot). reverse inside.items.items) w.self-inside-is
          ∙ ap (λ (frames : List (Frame g.row.W.Denot)). reverse (refill (length items) items frames)) c.as_mut_slice.ensures.value
          ∙ none_swept items c.args.self.now c.args.sweep c.self.view_is (subst (λ (frames : List (Frame g.row.W.Denot)). length frames ≤ 0) c.as_mut_slice.ensures.value w.in_default.ensures.item.3)
    ]
