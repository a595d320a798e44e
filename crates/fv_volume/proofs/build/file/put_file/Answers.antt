use Rattle.std.proofs.Common.{◌≡◌, ◌<◌, ◌++◌, Bool, true, false, length, min, sym, ap, ◌∙◌, refl, arith, append_assoc}
use Rattle.std.specs.Bool.{OnFalse}
use Rattle.fv_volume.specs.Files.{bytes_in, is_large, is_past_size, file_size, file_header, head_of}
use Rattle.fv_volume.specs.declared.build.file_header.FileHead.{FileHead}
use Rattle.fv_volume.proofs.Outcomes.{on_ok}
use Rattle.fv_volume.proofs.Sizes.{small_size, size_below, not_past}
use Rattle.fv_volume.proofs.build.file.put_file.Goals as goal

on_false : (b : Bool) (P : Type 0) → (b ≡ false → P) → OnFalse b P
on_false true P f = tt
on_false false P f = f refl

pub put_file_header-requires : goal.put_file_header-requires
put_file_header-requires c =
    let system = c.args.file_system in
    let body = bytes_in system c.args.file.now.body in
    let len : c.body_len-body_len.result ≡ length body =
    c.body_len-body_len.ensures ∙ omega (arith, c.requires.fits) in
    let short : is_past_size system (length body) ≡ false = not_past system c.args.file.now c.requires.short in
    on_false c.is_large.result (c.file_size.result < 16777216) (λ small. let fits : file_size system (length body) < 16777216 = small_size system (length body) short (sym (c.is_large.ensures ∙ ap (is_large system) len) ∙ small) in
    omega (arith, fits, c.file_size.ensures, ap (file_size system) len))

pub returns : goal.returns
returns c =
    let system = c.args.file_system in
    let file = c.args.file.now in
    let body = bytes_in system file.body in
    let len : c.body_len-body_len.result ≡ length body =
    c.body_len-body_len.ensures ∙ omega (arith, c.requires.fits) in
    let large : c.is_large.result ≡ is_large system (length body) = c.is_large.ensures ∙ ap (is_large system) len in
    let most = size_below system (length body) in
    let size : c.file_size.result ≡ file_size system (length body) =
    c.file_size.ensures ∙ ap (λ n. min (file_size system n) 18446744073709551615) len ∙ omega (arith, most, c.requires.fits) in
    let head : FileHead = record { name = file.name; kind = file.kind; attributes = file.attributes; large = c.is_large.result; size = c.file_size.result } in
    let same : head ≡ head_of system file (length body) =
    ap (λ l. let h : FileHead = record { name = file.name; kind = file.kind; attributes = file.attributes; large = l; size = c.file_size.result } in h) large
    ∙ ap (λ n. let h : FileHead = record { name = file.name; kind = file.kind; attributes = file.attributes; large = is_large system (length body); size = n } in h) size in
    on_ok c.put_body.result _ _ (λ grown.
    grown
    ∙ ap (λ xs. xs ++ body) (c.in_ok-put_file_header.ensures ∙ ap (λ h. c.args.out.now ++ file_header h) same)
    ∙ append_assoc c.args.out.now (file_header (head_of system file (length body))) body)
    c.put_body.ensures
