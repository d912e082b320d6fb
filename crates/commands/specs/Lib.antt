pub use Rattle.command_runs.specs.of_replay_loop
