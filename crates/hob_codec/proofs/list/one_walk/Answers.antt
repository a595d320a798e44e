use Rattle.hob_codec.proofs.ListLemmas.{lists_same, faults_same, lists_apart, some_list}
use Rattle.hob_codec.proofs.list.one_walk.Goals as goal

pub returns : goal.returns
returns c = record {
  lists = lists_same;
  faults = faults_same;
  apart = lists_apart;
  some = some_list;
}
