use Rattle.std.proofs.Common.{◌≡◌, ◌+◌, ◌≤◌, ◌++◌, length, map, vec_items, vec_len, vec_capacity}
use Rattle.engine.specs.Beneath.{StoreDoesAll}
use Rattle.engine.specs.Bytes.{asked, call_with, given}
use Rattle.engine.specs.Exchanges.{after, answers_in, exchanges}
use Rattle.engine.specs.Installed.{means}
use Rattle.engine.proofs.installation.Installation.replay_into.Given as goal

-- the answers so far and those to what is left are those to all; what is left makes of the installation, and of the store itself, what all makes of it; and there is room for the answers
abbrev pub invariant-loop-call : goal.invariant-loop-call
invariant-loop-call g l =
    let cells = g.S.Store.cells in
    let rest = map (call_with vec_items) l.call-iterator.rest.items in
    record {
      told : given l.answers ++ answers_in (exchanges (means cells l.self) rest) ≡ given l.fn.answers ++ answers_in (exchanges (means cells l.fn.self) (asked l.fn.calls));
      leaves : after (means cells l.self) rest ≡ after (means cells l.fn.self) (asked l.fn.calls);
      does : (t : _) → StoreDoesAll cells g.S.Store.puts_whole g.S.Store.puts_half (means cells l.self) rest l.self.store t → StoreDoesAll cells g.S.Store.puts_whole g.S.Store.puts_half (means cells l.fn.self) (asked l.fn.calls) l.fn.self.store t;
      room : vec_len l.answers + length l.call-iterator.rest.items ≤ vec_capacity l.answers;
    }
