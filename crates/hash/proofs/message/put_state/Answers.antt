use Rattle.hash.proofs.Padding.{state_written}
use Rattle.hash.proofs.message.put_state.Goals as goal

pub returns : goal.returns
returns c =
    let w8 = c in
    let w7 = w8 in
    let w6 = w7 in
    let w5 = w6 in
    let w4 = w5 in
    let w3 = w4 in
    let w2 = w3 in
    let w1 = w2 in
    let a = w1.args in
    state_written a.s a.out.now w1.put_word.new.out w2.put_word-2.new.out w3.put_word-3.new.out w4.put_word-4.new.out w5.put_word-5.new.out w6.put_word-6.new.out w7.put_word-7.new.out w8.put_word-8.new.out
    w1.put_word.ensures w2.put_word-2.ensures w3.put_word-3.ensures w4.put_word-4.ensures w5.put_word-5.ensures w6.put_word-6.ensures w7.put_word-7.ensures w8.put_word-8.ensures
