-- `words` meets its contract: each arm writes the words of its number. Assumes nothing.
use Rattle.desk.specs.Refusals.{refusal_words}
use Rattle.desk.proofs.refusals.words.Goals as goal

pub returns-in-1 : goal.returns-in-1
unfolding refusal_words
returns-in-1 c = rw c.in-1.is c.word.ensures

pub returns-in-15 : goal.returns-in-15
unfolding refusal_words
returns-in-15 c = rw c.in-15.is c.word-in-15.ensures

pub returns-in-2 : goal.returns-in-2
unfolding refusal_words
returns-in-2 c = rw c.in-2.is c.on_line.ensures

pub returns-in-3 : goal.returns-in-3
unfolding refusal_words
returns-in-3 c = rw c.in-3.is c.word-in-3.ensures

pub returns-in-4 : goal.returns-in-4
unfolding refusal_words
returns-in-4 c = rw c.in-4.is c.on_line-in-4.ensures

pub returns-in-5 : goal.returns-in-5
unfolding refusal_words
returns-in-5 c = rw c.in-5.is c.on_line-in-5.ensures

pub returns-in-6 : goal.returns-in-6
unfolding refusal_words
returns-in-6 c = rw c.in-6.is c.word-in-6.ensures

pub returns-in-7 : goal.returns-in-7
unfolding refusal_words
returns-in-7 c = rw c.in-7.is c.on_line-in-7.ensures

pub returns-in-8 : goal.returns-in-8
unfolding refusal_words
returns-in-8 c = rw c.in-8.is c.word-in-8.ensures

pub returns-in-9 : goal.returns-in-9
unfolding refusal_words
returns-in-9 c = rw c.in-9.is c.on_line-in-9.ensures

pub returns-in-10 : goal.returns-in-10
unfolding refusal_words
returns-in-10 c = rw c.in-10.is c.word-in-10.ensures

pub returns-in-16 : goal.returns-in-16
unfolding refusal_words
returns-in-16 c = rw c.in-16.is c.word-in-16.ensures

pub returns-in-17 : goal.returns-in-17
unfolding refusal_words
returns-in-17 c = rw c.in-17.is c.word-in-17.ensures

pub returns-in-19 : goal.returns-in-19
unfolding refusal_words
returns-in-19 c = rw c.in-19.is c.word-in-19.ensures

pub returns-in-20 : goal.returns-in-20
unfolding refusal_words
returns-in-20 c = rw c.in-20.is c.word-in-20.ensures

pub returns-in-21 : goal.returns-in-21
unfolding refusal_words
returns-in-21 c = rw c.in-21.is c.word-in-21.ensures

pub returns-in-22 : goal.returns-in-22
unfolding refusal_words
returns-in-22 c = rw c.in-22.is c.word-in-22.ensures

pub returns-in-23 : goal.returns-in-23
unfolding refusal_words
returns-in-23 c = rw c.in-23.is c.word-in-23.ensures

pub returns-in-24 : goal.returns-in-24
unfolding refusal_words
returns-in-24 c = rw c.in-24.is c.word-in-24.ensures

pub returns-in-25 : goal.returns-in-25
unfolding refusal_words
returns-in-25 c = rw c.in-25.is c.word-in-25.ensures
