use Rattle.boot_model.specs.Text.{keyword}
use Rattle.trace_reader.proofs.audit_line.audit_line.Goals as goal

pub returns-clause-none : goal.returns-clause-none
unfolding keyword
returns-clause-none c = λ none. record {
  volume = λ volume base len name is. c.in_default.ensures (volume, (record { 0 = base }, (record { 0 = len }, (name, tt)))) ((is.0.0, (is.0.1, (is.0.2, (is.0.3, tt)))), is.1);
  part = λ by volume name kind pei_rank dxe_rank pei dxe is. c.in_default-fields_after.ensures (by, (volume, (name, (record { 0 = kind }, (pei_rank, (dxe_rank, (pei, (dxe, tt)))))))) ((is.0.0, (is.0.1, (is.0.2, (is.0.3, (is.0.4, (is.0.5, (is.0.6, (is.0.7, tt)))))))), is.1);
}
