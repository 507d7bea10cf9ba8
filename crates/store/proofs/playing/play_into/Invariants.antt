use Rattle.std.proofs.Common.{◌≡◌, ◌+◌, ◌≤◌, ◌++◌, length, drop, vec_items, vec_len, vec_capacity}
use Rattle.store.specs.Operations.{replies, left_by, DoesAll}
use Rattle.store.proofs.playing.play_into.Given as goal

-- the answers so far and those to what is left are those to all; what is left to do makes of the store what all makes of it; and there is room for the answers
abbrev pub invariant-loop-operation : goal.invariant-loop-operation
invariant-loop-operation g l =
    let cells = g.S.Store.cells in
    let does = DoesAll cells g.S.Store.puts_whole g.S.Store.puts_half in
    let rest = drop l.operation-index l.operations in
    record {
      told : vec_items l.answers ++ replies (cells l.store) rest ≡ vec_items l.initial.answers ++ replies (cells l.initial.store) l.operations;
      leaves : left_by (cells l.store) rest ≡ left_by (cells l.initial.store) l.operations;
      does : (after : _) → does rest l.store after → does l.operations l.initial.store after;
      room : vec_len l.answers + length l.operations ≤ vec_capacity l.answers + l.operation-index;
    }
