use Rattle.promises.proofs.OneWay.{never_both_send}
use Rattle.promises.proofs.never_both_send.Goals as goal

pub returns : goal.returns
returns c = never_both_send
