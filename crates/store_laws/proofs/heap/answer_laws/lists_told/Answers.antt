use Rattle.store_laws.proofs.Told.{lists_are_told}
use Rattle.store_laws.proofs.Accessors.{ppi_is_told, nth_is_told, has_is_told, callback_is_told, dispatch_is_told, pending_is_told, images_tell_all}
use Rattle.store_laws.proofs.heap.answer_laws.lists_told.Goals as goal

pub returns : goal.returns
returns c =
    let law = c.little_endian.ensures.read in
    record {
      lists = lists_are_told law;
      ppi = ppi_is_told law;
      nth = nth_is_told law;
      has = has_is_told law;
      callback = callback_is_told law;
      dispatch = dispatch_is_told law;
      pending = pending_is_told law;
      all = images_tell_all law;
    }
