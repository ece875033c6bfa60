use Rattle.ti_cert.proofs.clashes.settled_of.Goals as goal

pub returns : goal.returns
returns c = record {
  first = c.first_settled-settled.result;
  first_sound = c.first_settled-settled.ensures.sound;
  first_complete = c.first_settled-settled.ensures.complete;
  close_sound = c.close.ensures.sound;
  close_complete = c.close.ensures.complete;
}
