use Rattle.promises.proofs.TableRows.{turned_down_untouched}
use Rattle.promises.proofs.turned_down_untouched.Goals as goal

pub returns : goal.returns
returns c = turned_down_untouched
