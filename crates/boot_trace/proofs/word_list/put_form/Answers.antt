use Rattle.std.proofs.Common.{inl, inr, refl}
use Rattle.boot_trace.proofs.word_list.put_form.Goals as goal

pub put_pieces-requires-in-Callback : goal.put_pieces-requires-in-Callback
put_pieces-requires-in-Callback g c = elim c.in-Callback.is [
  | inl callback ↦ rw (callback) refl
  | inr other ↦ elim other [
    | inl dispatch ↦ rw (dispatch) refl
    | inr pending ↦ rw (pending) refl
  ]
]

pub put_pieces-requires-in-NotifyCallback : goal.put_pieces-requires-in-NotifyCallback
put_pieces-requires-in-NotifyCallback g c = elim c.in-NotifyCallback.is [
  | inl callback ↦ rw (callback) refl
  | inr other ↦ elim other [
    | inl dispatch ↦ rw (dispatch) refl
    | inr protocol ↦ rw (protocol) refl
  ]
]
