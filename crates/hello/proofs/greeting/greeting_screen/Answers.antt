use Rattle.hello.proofs.Drawn.{greeting_shown}
use Rattle.hello.proofs.greeting.greeting_screen.Goals as goal

pub returns : goal.returns
returns c = record {
  greeting = greeting_shown c.args.size.rows c.args.size.cols c.in_ok-desk.desk c.draw.new.desk c.noutrefresh.new.self c.in_ok-screen.screen c.noutrefresh.new.screen
      c.in_ok-desk.ensures c.in_ok-screen.ensures c.in_ok-draw.ensures.drawn c.in_ok-noutrefresh.ensures;
}
