-- The machine's definitions in one place, for the layers above.
pub use Rattle.rv_core.specs.Bytes.{word_at, put_word, put_words, words_at}
pub use Rattle.rv_core.specs.Operations.{register, with_register}
pub use Rattle.rv_core.specs.Execution.{goes_on, service_of}
unfoldable pub use Rattle.rv_core.specs.Execution.{executed}
pub use Rattle.rv_core.specs.Stepping.{step_of, runs, answer, IsCall, Keeps}
pub use Rattle.rv_core.specs.Task.{blank, loaded, first_state, resumed, place_refusal, IsPlace}
